pub mod Marked
pub mod Pooled
pub mod Numbered
pub mod Linked
pub mod Preorder
