pub mod NumeralLemmas
pub mod TurnsLemmas
