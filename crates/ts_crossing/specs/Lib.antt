pub mod Laws
pub mod Entering
pub mod Leaving
