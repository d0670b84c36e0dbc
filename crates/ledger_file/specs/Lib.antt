pub mod Gate
pub mod Ledger
pub mod Reading
pub mod Records
pub mod Text
