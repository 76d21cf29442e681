pub mod Listed
pub mod Counts
pub mod Value
pub mod Points
