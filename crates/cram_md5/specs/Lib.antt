pub mod Answer
pub mod Hmac
pub mod Offer
pub mod Views
