pub mod Answer
pub mod Files
pub mod Share
pub mod Views
