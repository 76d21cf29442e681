pub mod Quotients
pub mod Sums
