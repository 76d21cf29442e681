pub mod Spans
pub mod Collected
pub mod Point
pub mod Part
