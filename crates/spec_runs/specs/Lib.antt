pub mod BareTrees
pub mod Configurations
pub mod Moves
pub mod Runs
pub mod Outcomes
