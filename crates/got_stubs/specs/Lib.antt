pub mod Marks
pub mod Plan
