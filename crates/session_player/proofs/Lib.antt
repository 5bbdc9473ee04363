pub mod Growing
pub mod Playing
pub mod Once
