pub mod Lookups
pub mod Failures
pub mod Runs
pub mod Laws
