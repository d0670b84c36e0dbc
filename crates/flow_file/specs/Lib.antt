pub mod Item
pub mod Views
