pub mod SightLaws
pub mod Sights
