pub mod MemFolder
pub mod MemSink
pub mod OsFolder
pub mod OutSink
pub mod Outside
pub mod Read
pub mod Room
