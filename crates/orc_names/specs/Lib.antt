pub mod Hasher
pub mod Numbers
