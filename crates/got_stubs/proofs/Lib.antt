pub mod Bounds
pub mod Flags
pub mod Noted
pub mod Steps
pub mod Walking
