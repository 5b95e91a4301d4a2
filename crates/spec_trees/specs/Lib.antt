pub mod Trees
pub mod Made
pub mod Reducible
pub mod Inside
pub mod Choice
pub mod VisibleNodes
pub mod Family
pub mod Shown
