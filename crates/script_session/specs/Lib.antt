pub mod SetUps
pub mod Lines
pub mod Posts
pub mod Clients
pub mod Members
pub mod Leaving
