pub mod Bytes
pub mod Tables
pub mod Parts
pub mod Files
pub mod Canonical
