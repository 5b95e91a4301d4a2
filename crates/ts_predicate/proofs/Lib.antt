pub mod AskLemmas
pub mod KeepLemmas
