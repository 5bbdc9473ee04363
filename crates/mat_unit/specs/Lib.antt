pub mod Changes
pub mod Jobs
pub mod Kept
pub mod Roster
pub mod Rows
