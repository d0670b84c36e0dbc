pub mod Cursor
pub mod Law
pub mod Nodes
pub mod Rising
pub mod Route
pub mod Views
