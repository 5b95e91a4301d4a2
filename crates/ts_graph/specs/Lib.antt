pub mod Down
pub mod Cells
pub mod Under
pub mod Ways
pub mod Parts
pub mod Latest
pub mod Bounds
