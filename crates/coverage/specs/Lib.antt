-- The definitions that the contracts cite.
pub mod Items
pub mod Answers
