pub mod Asks
pub mod Files
pub mod Orders
pub mod Answers
