pub mod Expansions
pub mod Flat
pub mod Grammars
pub mod Roots
pub mod Sizes
pub mod Thin
pub mod Limits
pub mod Orders
