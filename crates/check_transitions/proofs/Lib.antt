pub mod SequenceLaws
pub mod StepLaws
pub mod StepRangeLaws
pub mod BinLaws
