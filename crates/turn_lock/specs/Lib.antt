pub mod Lists
pub mod Views
pub mod Rule
pub mod Told
pub mod Passes
pub mod Handles
pub mod Lending
