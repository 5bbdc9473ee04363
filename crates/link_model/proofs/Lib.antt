pub mod Layouts
pub mod Symbols
pub mod Writes
