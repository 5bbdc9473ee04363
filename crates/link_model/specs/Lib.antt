pub mod Kinds
pub mod Graph
pub mod Layout
pub mod Image
pub mod Groups
pub mod Sound
pub mod Offers
