pub mod AllBytes
pub mod Plays
pub mod PlaysWrites
pub mod Pushes
