pub mod Words
pub mod Matching
pub mod Lexing
pub mod Seen
