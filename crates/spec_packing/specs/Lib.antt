pub mod Serving
pub mod Laws
pub mod Replacing
pub mod Packing
