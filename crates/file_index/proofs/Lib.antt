pub mod Filing
pub mod Members
pub mod Order
mod Places
pub mod Turning
