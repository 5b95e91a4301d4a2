pub mod Books
pub mod Steps
pub mod Versions
pub mod Reuse
