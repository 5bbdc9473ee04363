pub mod Asking
pub mod Loading
