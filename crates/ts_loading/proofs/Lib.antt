pub mod FaultLemmas
pub mod LoopLemmas
