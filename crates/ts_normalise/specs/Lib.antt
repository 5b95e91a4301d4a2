pub mod Faults
pub mod Forms
pub mod Named
pub mod Refusals
pub mod Texts
