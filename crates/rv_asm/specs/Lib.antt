pub mod Symbols
pub mod Branches
pub mod Sections
pub mod Objects
pub mod Typed
