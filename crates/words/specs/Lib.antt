pub mod Verdicts
pub mod Sums
pub mod Points
pub mod Records
pub mod Kinds
