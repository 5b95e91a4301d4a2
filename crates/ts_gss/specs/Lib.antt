pub mod Stacks
pub mod Cells
pub mod Paths
