pub mod Joining
pub mod LastTry
pub mod Orders
pub mod Searching
