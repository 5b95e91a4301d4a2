pub mod Said
pub mod Lines
pub mod Rules
pub mod Script
pub mod Forms
pub mod Cut
pub mod Drafts
