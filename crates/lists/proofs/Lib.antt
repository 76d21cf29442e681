pub mod Fronts
pub mod RowLaws
pub mod ListLaws
pub mod PlannedLaws
pub mod SizeLaws
