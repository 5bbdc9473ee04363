pub mod InLine
pub mod Names
pub mod Queues
pub mod Session
