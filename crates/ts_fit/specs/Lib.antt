pub mod Bounds
pub mod Misfits
pub mod Searches
pub mod Straight
