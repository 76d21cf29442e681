pub mod Joins
pub mod PlanLists
