pub mod LawLemmas
pub mod NextLemmas
pub mod PairLemmas
pub mod PrefixLemmas
pub mod SeenFirst
pub mod TurnCounts
