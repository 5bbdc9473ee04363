pub mod Carried
pub mod Did
pub mod Does
pub mod Home
pub mod ReadyWords
pub mod SharedCalls
pub mod Single
