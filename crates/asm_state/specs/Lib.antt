pub mod Names
pub mod Symbols
pub mod Sections
pub mod Reach
