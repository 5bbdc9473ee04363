pub mod CallsFit
pub mod Following
