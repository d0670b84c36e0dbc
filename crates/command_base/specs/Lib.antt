pub mod Causes
pub mod Opening
pub mod Printing
pub mod Settings
pub mod Statuses
