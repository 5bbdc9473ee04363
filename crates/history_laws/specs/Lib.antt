pub mod Conditions
pub mod Holders
pub mod Laws
pub mod Notes
pub mod NoticeLaws
pub mod Notices
