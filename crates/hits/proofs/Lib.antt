pub mod PlainLaws
pub mod FoundLaws
pub mod Own
pub mod ValueExact
pub mod Ready
pub mod RowLaws
pub mod AllPlaces
pub mod Unmatched
