pub mod Once
pub mod Putting
pub mod WorkedTake
