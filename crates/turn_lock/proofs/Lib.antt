pub mod Entries
pub mod Parts
pub mod Steps
pub mod Seats
pub mod Allowed
pub mod Posts
