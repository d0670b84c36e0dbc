pub mod Comings
pub mod Least
pub mod ListStates
pub mod Offers
pub mod Orders
pub mod Outsiders
pub mod Told
pub mod Views
