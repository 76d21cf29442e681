pub mod CountLaws
pub mod ListedLaws
pub mod NumberLaws
pub mod CrossLaws
pub mod AllLaws
