pub mod Bounds
pub mod Known
pub mod Refusals
pub mod Said
pub mod Texts
