pub mod Forced
pub mod OnlyRuns
pub mod Sound
pub mod Leaping
pub mod Taking
pub mod Behind
pub mod Laws
