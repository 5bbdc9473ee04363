pub mod Learning
pub mod Posting
