pub mod LoginLaws
pub mod Lists
pub mod Moments
pub mod Sharers
pub mod Spoken
pub mod Shorts
pub mod Greetings
