pub mod Answer
pub mod Headline
pub mod Status
pub mod Stops
