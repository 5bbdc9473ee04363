pub mod Hexadecimal
pub mod Places
