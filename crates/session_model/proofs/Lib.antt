pub mod Changes
pub mod Choices
pub mod FirstRows
pub mod Lasts
pub mod Phases
pub mod Stopping
pub mod Units
