pub mod Owners
pub mod Places
pub mod Holders
