pub mod Collected
pub mod Holding
