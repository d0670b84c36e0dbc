pub mod Counting
pub mod Takes
