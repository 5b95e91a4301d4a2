pub mod Owners
pub mod Supertypes
