pub mod EachLemmas
