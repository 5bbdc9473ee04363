pub mod Callers
pub mod Kept
pub mod Lookups
pub mod Made
pub mod Objects
