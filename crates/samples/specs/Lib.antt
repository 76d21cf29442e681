-- The definitions that the contracts cite.
pub mod Adds
pub mod Writes
pub mod Listed
pub mod Prepared
