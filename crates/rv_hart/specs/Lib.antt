pub mod Arithmetic
pub mod Effects
pub mod Fetched
pub mod Map
pub mod Parts
pub mod Registers
pub mod Step
