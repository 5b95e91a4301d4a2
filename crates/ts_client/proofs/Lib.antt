pub mod AskLemmas
pub mod BetweenLemmas
pub mod DeskLemmas
pub mod HeldLemmas
pub mod LookLemmas
pub mod SeenFirst
pub mod ServeLemmas
pub mod SpreadLemmas
