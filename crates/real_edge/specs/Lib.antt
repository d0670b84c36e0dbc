pub mod Copying
pub mod Names
pub mod WaitingLines
pub mod StdSinks
pub mod SystemDices
pub mod SystemLines
