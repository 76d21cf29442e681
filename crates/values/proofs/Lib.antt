pub mod Laws
pub mod Listing
pub mod CountLaws
pub mod CountExact
pub mod PointLaws
pub mod PointExact
pub mod ValueLaws
pub mod Ready
