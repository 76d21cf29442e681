pub mod Illegals
pub mod PreparedLaws
pub mod TopLaws
pub mod OneLaws
pub mod Listed
