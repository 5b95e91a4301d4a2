pub mod LatestLemmas
pub mod PassesComeAndGo
pub mod RisingEntries
pub mod StepsKeepRule
pub mod TriesInARow
pub mod TurnLists
pub mod TurnTells
pub mod ViewSums
