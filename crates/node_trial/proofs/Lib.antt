pub mod Batches
pub mod Drawing
pub mod NewStores
