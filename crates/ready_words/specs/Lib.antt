pub mod Peeks
pub mod Found
