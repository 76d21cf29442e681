pub mod AnswerLaws
pub mod ItemLaws
pub mod NumberLaws
