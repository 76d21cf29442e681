pub mod Places
pub mod Plains
