pub mod AnswerLemmas
pub mod HeadlineLemmas
pub mod JudgeLemmas
pub mod PlainLemmas
pub mod ProgramLemmas
pub mod ReadLemmas
