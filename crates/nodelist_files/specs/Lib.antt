pub mod Compiling
pub mod Files
pub mod IndexFile
pub mod Reading
pub mod Staging
