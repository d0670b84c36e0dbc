pub mod Filed
pub mod Numbered
pub mod Sets
pub mod Turns
