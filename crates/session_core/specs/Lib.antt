pub mod Blocks
pub mod Ends
pub mod Givings
pub mod Replies
pub mod Says
pub mod Sessions
pub mod Stages
pub mod Takings
