pub mod Fields
pub mod Complement
pub mod Numbers
pub mod Writers
