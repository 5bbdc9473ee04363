pub mod Flat
pub mod Parts
pub mod Range
pub mod Rows
