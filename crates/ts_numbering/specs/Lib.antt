pub mod Keys
pub mod Limits
pub mod Numberings
pub mod Places
pub mod Shapes
pub mod Surveys
