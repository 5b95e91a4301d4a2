pub mod Spelling
pub mod Reader
pub mod Parts
pub mod Reading
pub mod Verdict
pub mod Right
pub mod Faults
