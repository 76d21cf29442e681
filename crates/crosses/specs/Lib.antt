-- The definitions that the contracts cite.
pub mod Order
pub mod Flags
pub mod Labels
pub mod Marked
