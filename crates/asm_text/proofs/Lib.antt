pub mod Bounds
pub mod Rooms
pub mod Sizes
pub mod Steps
