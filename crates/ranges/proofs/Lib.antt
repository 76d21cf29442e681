pub mod RangeLaws
pub mod SpanLaws
pub mod Searches
pub mod NextLaws
pub mod MemberLaws
pub mod TakenLaws
pub mod SizeLaws
pub mod CountLaws
