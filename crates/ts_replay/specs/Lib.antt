pub mod Beginnings
pub mod Replays
pub mod Running
pub mod Runs
pub mod Sights
pub mod Steps
