pub mod Bits
pub mod Immediates
pub mod Numbers
