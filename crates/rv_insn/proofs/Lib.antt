pub mod OneInsn
pub mod OneWord
pub mod Parts
pub mod Ranges
pub mod Written
