pub mod NextCall
pub mod Tries
