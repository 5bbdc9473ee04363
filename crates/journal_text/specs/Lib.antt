pub mod Events
pub mod Journal
pub mod Laws
pub mod Parts
pub mod Readable
pub mod Replies
