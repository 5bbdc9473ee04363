pub mod Bools
pub mod Each
pub mod Lists
pub mod Options
