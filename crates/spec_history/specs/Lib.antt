pub mod Books
pub mod Histories
pub mod Legal
pub mod Orders
pub mod Printed
pub mod Queries
pub mod Replies
