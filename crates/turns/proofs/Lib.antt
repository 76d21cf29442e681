pub mod SampledWords
pub mod Keeps
pub mod TurnLaws
pub mod Counted
