pub mod LaterTables
pub mod Mentions
pub mod Readings
pub mod Snoc
pub mod SoFar
pub mod SymbolValues
