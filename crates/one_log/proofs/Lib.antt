mod Answers
mod Ends
mod Entries
mod Fronts
mod Logs
mod Lookups
mod Phases
mod Runs
mod Sets
mod Staying
mod Units
pub mod One
pub mod Places
