pub mod Batches
pub mod Columns
pub mod Told
