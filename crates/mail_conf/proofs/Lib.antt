pub mod KnownAddresses
pub mod Limits
