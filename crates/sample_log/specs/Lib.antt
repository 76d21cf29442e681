pub mod Held
pub mod Samples
