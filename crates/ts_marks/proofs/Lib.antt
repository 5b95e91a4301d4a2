pub mod MovedLemmas
pub mod MarkedLemmas
pub mod PassedLemmas
pub mod RemadeLemmas
pub mod SkipLemmas
pub mod ElementLemmas
pub mod KeptLemmas
pub mod AgreeLemmas
