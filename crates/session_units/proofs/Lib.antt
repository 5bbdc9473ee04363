pub mod Lawful
pub mod Looked
pub mod OtherLaws
pub mod Sharing
