pub mod AppendLemmas
pub mod ReadLemmas
