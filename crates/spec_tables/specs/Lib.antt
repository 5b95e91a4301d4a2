pub mod Fit
pub mod Items
pub mod Actions
pub mod Conflicts
