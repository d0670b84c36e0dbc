pub mod Addresses
pub mod Command
pub mod Escape
pub mod File
pub mod Limits
pub mod Words
pub mod Writing
