pub mod CountLaws
pub mod OriginLaws
pub mod Exact
pub mod Accepted
pub mod PointRows
