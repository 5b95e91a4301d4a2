pub mod ReuseLemmas
pub mod LatestLemmas
pub mod RefusedLemmas
pub mod LentLemmas
