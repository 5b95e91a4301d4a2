pub mod PlaceLemmas
pub mod LeapLemmas
pub mod WayLemmas
pub mod TopLemmas
pub mod RunLemmas
pub mod StopLemmas
