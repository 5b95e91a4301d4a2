pub mod Places
pub mod Changes
pub mod Marked
pub mod Offered
