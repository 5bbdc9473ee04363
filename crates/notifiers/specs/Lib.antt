pub mod Chains
pub mod Heard
pub mod Kept
pub mod Notices
