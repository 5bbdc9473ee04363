pub mod Asking
pub mod Calls
pub mod Dylibs
pub mod Lists
pub mod Numbers
pub mod Plans
pub mod Taken
