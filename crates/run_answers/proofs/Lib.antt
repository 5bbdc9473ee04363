pub mod Words
pub mod Clauses
pub mod Full
pub mod Quiet
pub mod Found
pub mod ByNames
pub mod Kept
pub mod Reading
