pub mod Crossings
pub mod Halves
