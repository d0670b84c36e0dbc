pub mod Fields
pub mod Flags
pub mod Index
pub mod Keyed
pub mod List
pub mod Node
pub mod Tracks
pub mod Views
