pub mod Added
pub mod Folders
pub mod Search
pub mod Sets
pub mod Spelled
