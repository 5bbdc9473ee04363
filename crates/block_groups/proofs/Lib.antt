pub mod Groupings
pub mod Instances
pub mod Keyed
pub mod Needs
pub mod Rows
pub mod Searches
