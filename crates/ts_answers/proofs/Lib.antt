mod ResultLemmas
mod KeepingLemmas
