pub mod Crossing
pub mod Doing
pub mod Lent
pub mod Numbers
pub mod Sharing
pub mod Words
