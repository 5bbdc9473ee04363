pub mod Ends
pub mod Taking
pub mod Causes
pub mod Fit
