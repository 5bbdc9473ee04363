mod AllTold
mod Lists
mod Loads
mod Placing
mod ScriptSize
mod Sessions
mod Stopped
mod Stops
mod TextsRead
pub mod Asked
pub mod Causes
pub mod Determined
pub mod Kept
pub mod Lines
pub mod NamedSessions
pub mod Objects
pub mod ReadingLemmas
