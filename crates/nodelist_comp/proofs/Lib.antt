pub mod FirstField
pub mod InOrder
