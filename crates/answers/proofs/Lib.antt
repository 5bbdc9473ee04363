pub mod FirstOf
pub mod Reading
pub mod Stops
pub mod Sinks
