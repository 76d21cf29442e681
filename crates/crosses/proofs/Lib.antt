pub mod Laws
pub mod Places
pub mod FlagsExact
pub mod Walks
pub mod MarkLaws
