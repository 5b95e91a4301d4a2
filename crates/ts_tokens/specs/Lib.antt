pub mod Definitions
pub mod Extras
pub mod Inlining
pub mod Keywords
pub mod Names
pub mod Paths
pub mod Patterns
pub mod Placed
