pub mod Added
pub mod Places
pub mod Session
pub mod Shelves
