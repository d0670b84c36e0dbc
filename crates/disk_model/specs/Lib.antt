pub mod Answers
pub mod Causes
pub mod Changes
pub mod Folders
pub mod Moments
pub mod Name
pub mod Twice
pub mod World
