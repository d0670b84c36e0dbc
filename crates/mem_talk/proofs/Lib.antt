pub mod Queueing
pub mod Resting
