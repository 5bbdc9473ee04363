pub mod Groups
pub mod Lists
pub mod Backwards
pub mod Keys
pub mod Members
