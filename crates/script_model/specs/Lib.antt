pub mod Asking
pub mod Dylibs
pub mod Given
pub mod Lines
pub mod Plans
pub mod Promises
pub mod Scripts
