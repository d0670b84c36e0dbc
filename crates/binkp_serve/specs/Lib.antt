pub mod Calling
pub mod GiveSteps
pub mod Placing
pub mod Rests
pub mod Serving
pub mod Telling
