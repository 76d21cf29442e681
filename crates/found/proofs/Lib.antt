pub mod RowLaws
pub mod PartLaws
pub mod GuardLaws
pub mod HitLaws
pub mod AllLaws
