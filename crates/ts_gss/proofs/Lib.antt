pub mod CellLemmas
pub mod PathLemmas
pub mod OneLemmas
