pub mod Seen
pub mod Held
pub mod GoesOn
pub mod Calls
