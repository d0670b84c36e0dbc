pub mod Asked
pub mod Held
pub mod Lent
pub mod Resting
pub mod Slots
pub mod Kept
