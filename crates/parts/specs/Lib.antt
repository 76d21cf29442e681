-- The definitions that the contracts cite.
pub mod Rows
pub mod Words
pub mod Point
