pub mod FreeLaws
pub mod MetLaws
pub mod SearchLaws
pub mod PlanLaws
pub mod PlanRoom
