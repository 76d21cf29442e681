-- The definitions that the contracts cite.
pub mod Pieces
pub mod Met
pub mod Plan
