pub mod CrossLaws
pub mod SelectLaws
pub mod Sections
