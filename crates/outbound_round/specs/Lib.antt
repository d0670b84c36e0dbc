pub mod Counts
pub mod Round
