pub mod Batches
pub mod Lefts
pub mod Whole
