pub mod Forms
pub mod Line
pub mod Numbers
