pub mod Readings
pub mod Hits
pub mod Transitions
pub mod Kinds
pub mod Gates
pub mod Spread
