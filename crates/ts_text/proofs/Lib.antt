pub mod EditLemmas
pub mod PartLemmas
pub mod PieceLemmas
pub mod PlaceLemmas
pub mod PointLemmas
pub mod TextLemmas
pub mod WriterLemmas
