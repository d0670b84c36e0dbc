pub mod Greeting
pub mod Laws
pub mod Login
pub mod Moment
pub mod Passwords
pub mod Says
pub mod Sides
pub mod Views
