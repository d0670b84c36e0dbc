pub mod Asking
pub mod Own
pub mod Needs
