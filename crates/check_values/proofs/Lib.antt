pub mod Bounds
pub mod BinLaws
pub mod RangeLaws
pub mod Sound
