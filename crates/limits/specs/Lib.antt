pub mod Walks
pub mod Bins
pub mod Tallies
