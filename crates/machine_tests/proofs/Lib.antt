pub mod Aligns
pub mod Needs
