pub mod Lowest
pub mod Members
