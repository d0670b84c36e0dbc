pub mod Writings
pub mod Dids
pub mod Early
pub mod Heard
pub mod Gives
pub mod Logins
pub mod Bounds
pub mod TurnBounds
