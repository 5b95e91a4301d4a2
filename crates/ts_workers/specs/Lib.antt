pub mod Changes
pub mod Fronts
pub mod Joins
pub mod Openings
pub mod Workers
