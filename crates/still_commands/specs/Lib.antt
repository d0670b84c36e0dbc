pub mod Came
pub mod Lists
pub mod Receipts
pub mod Still
