pub mod Status
pub mod Lines
pub mod Outcomes
pub mod Limits
pub mod Faults
pub mod GrammarFaults
