pub mod Edit
pub mod Parts
pub mod Pieces
pub mod Point
pub mod Same
pub mod Slices
pub mod Text
pub mod Written
