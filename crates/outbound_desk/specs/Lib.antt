pub mod TakenIn
pub mod Lines
pub mod Answering
pub mod Roaming
pub mod RoamingLaws
