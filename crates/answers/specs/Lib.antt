pub mod Answers
pub mod EndLine
pub mod Files
pub mod Memory
pub mod Reads
pub mod Written
