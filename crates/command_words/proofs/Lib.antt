pub mod PlainWords
pub mod Splitting
pub mod WordLists
