pub mod Law
pub mod Low
