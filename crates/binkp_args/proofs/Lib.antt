pub mod Escaping
pub mod Fits
pub mod ReadLimits
pub mod Readable
pub mod SpacedWords
pub mod Spacing
pub mod Unescaping
pub mod Written
