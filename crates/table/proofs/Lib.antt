pub mod CheckLaws
pub mod Outcome
pub mod MeasureLaws
