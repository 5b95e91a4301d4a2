pub mod CompareLemmas
pub mod CodeLemmas
