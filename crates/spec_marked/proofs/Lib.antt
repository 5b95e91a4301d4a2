pub mod MovedLemmas
pub mod LayerLemmas
pub mod BytesLemmas
pub mod PlaceLemmas
pub mod WholeLemmas
pub mod SoundLemmas
