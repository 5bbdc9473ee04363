pub mod Fits
pub mod Plays
