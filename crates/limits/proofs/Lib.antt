-- laws of lists and loops
pub mod RowLaws
pub mod WalkLaws
pub mod EntryLaws
-- the table by places, as sums over its bytes
pub mod RawSums
pub mod ReadLaws
pub mod KindLaws
pub mod PointLaws
pub mod CrossLaws
pub mod Totals
