pub mod Predicates
pub mod Asking
pub mod HostAnswers
pub mod Judges
pub mod Rules
