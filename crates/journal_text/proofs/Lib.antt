mod Cuts
mod Ends
mod ListLemmas
mod Names
mod Numerals
mod Occurrence
mod Reading
mod Reply
pub mod Places
