pub mod Causes
pub mod Determined
pub mod Kept
pub mod Stopped
