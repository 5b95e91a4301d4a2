pub mod BareLemmas
pub mod ReductionLemmas
pub mod SightLemmas
pub mod RuleLemmas
pub mod MoveLemmas
pub mod OutcomeLemmas
