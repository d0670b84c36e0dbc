pub mod AtGate
pub mod Records
pub mod Seen
