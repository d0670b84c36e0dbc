pub mod Asked
pub mod Needed
pub mod NotedZones
pub mod Noting
pub mod Opened
pub mod Told
pub mod Walk
