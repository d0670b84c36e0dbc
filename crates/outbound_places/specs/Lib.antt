pub mod Files
pub mod Outbound
pub mod Places
