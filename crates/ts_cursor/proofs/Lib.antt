pub mod NestLemmas
pub mod NumberLemmas
pub mod PathLemmas
pub mod PoolLemmas
pub mod RiseLemmas
pub mod ShapeLemmas
pub mod StandLemmas
pub mod WalkLemmas
