pub mod FewFrames
pub mod OneReading
pub mod Taking
