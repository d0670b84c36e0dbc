pub mod Causes
pub mod Ends
pub mod Marking
pub mod Text
pub mod Undoing
