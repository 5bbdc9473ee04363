pub mod Changes
pub mod Sizes
pub mod Trees
pub mod Holding
pub mod Joining
