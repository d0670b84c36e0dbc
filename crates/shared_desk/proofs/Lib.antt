pub mod Paths
pub mod Counting
pub mod Sharing
pub mod Calling
pub mod OwnRows
pub mod OwnNumbers
