pub mod Stream
pub mod Views
