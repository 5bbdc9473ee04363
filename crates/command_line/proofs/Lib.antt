mod Digits
mod Given
mod Matched
mod Simple
pub mod Within
