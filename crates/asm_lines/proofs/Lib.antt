pub mod Capped
pub mod Fences
pub mod Given
pub mod Items
pub mod Parts
