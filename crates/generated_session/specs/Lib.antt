pub mod Counts
pub mod Laws
pub mod Plans
pub mod Runs
pub mod Scripts
