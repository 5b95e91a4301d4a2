pub mod States
pub mod Laying
pub mod Grounded
pub mod Replacing
pub mod Links
pub mod Keys
pub mod Outcomes
pub mod Laws
