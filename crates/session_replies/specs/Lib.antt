pub mod Accepted
pub mod Chains
pub mod Lookups
pub mod Reasons
pub mod Shown
pub mod Turned
