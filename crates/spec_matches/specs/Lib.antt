pub mod Embedding
pub mod Matches
pub mod Siblings
pub mod Taking
