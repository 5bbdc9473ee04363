pub mod Finds
pub mod Shown
