pub mod Counted
pub mod Senders
