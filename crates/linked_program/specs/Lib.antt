pub mod SetUps
pub mod Clients
pub mod Members
pub mod Ends
pub mod Worked
