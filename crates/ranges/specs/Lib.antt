pub mod Types
pub mod Taken
pub mod Counts
