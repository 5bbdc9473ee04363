pub mod Apart
pub mod Gaps
pub mod Held
pub mod Kept
pub mod LastImage
pub mod Laws
pub mod Mapped
pub mod Places
