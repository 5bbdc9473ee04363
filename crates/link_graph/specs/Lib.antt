pub mod Object
pub mod Padding
pub mod Checks
pub mod Parts
pub mod Read
