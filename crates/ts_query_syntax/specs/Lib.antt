pub mod Builders
pub mod Items
pub mod Judging
pub mod Levels
pub mod Queries
pub mod Refusals
