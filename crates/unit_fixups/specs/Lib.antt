pub mod Sound
pub mod Tables
pub mod Refusal
