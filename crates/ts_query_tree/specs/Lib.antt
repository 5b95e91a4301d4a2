pub mod Words
pub mod Signs
pub mod Trees
pub mod Places
pub mod Reads
pub mod Machine
pub mod States
