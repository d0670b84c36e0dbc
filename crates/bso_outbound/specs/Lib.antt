pub mod Digits
pub mod Kinds
pub mod Names
pub mod Paths
pub mod Reading
