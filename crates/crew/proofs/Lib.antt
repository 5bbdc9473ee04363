pub mod Taking
mod NewMembers
pub mod Worked
