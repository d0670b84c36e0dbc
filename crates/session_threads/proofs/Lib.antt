pub mod AtClose
pub mod Places
pub mod Promising
pub mod Seats
