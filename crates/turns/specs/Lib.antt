pub mod Batch
pub mod Turns
