-- The definitions that the contracts cite.
pub mod Put
pub mod Flat
