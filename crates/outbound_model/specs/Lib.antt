pub mod OwnNames
pub mod Outbound
pub mod Fates
pub mod Steps
pub mod Lives
pub mod WorkedTake
