pub mod Disturbing
pub mod Draws
pub mod Files
pub mod Parties
pub mod Trials
