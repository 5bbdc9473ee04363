pub mod Current
pub mod Keeping
pub mod Lasts
