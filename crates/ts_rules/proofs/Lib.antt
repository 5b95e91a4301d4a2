pub mod AlternativeLemmas
pub mod FirstSightLemmas
pub mod InsideLemmas
pub mod SightLemmas
