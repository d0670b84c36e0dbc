pub mod Ruled
pub mod Stand
pub mod Calls
pub mod Spares
pub mod Plans
pub mod Ours
pub mod Ends
