pub mod StayLemmas
pub mod TokenLemmas
pub mod AgainLemmas
