pub mod Line
pub mod Trial
