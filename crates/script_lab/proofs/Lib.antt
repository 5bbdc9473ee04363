pub mod CodeBytes
pub mod Lawful
pub mod SetUps
