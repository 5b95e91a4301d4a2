pub mod Bounds
pub mod Joined
pub mod Next
pub mod Seen
pub mod Served
