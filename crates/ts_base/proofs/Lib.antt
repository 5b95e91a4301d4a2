pub mod ByteLemmas
pub mod PlaceLemmas
