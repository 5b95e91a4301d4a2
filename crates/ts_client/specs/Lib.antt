pub mod Between
pub mod Looks
pub mod Nexts
pub mod Serving
pub mod Steps
pub mod Turns
pub mod Working
