pub mod Lost
pub mod Sessions
pub mod ByNames
pub mod Answered
pub mod Clauses
pub mod Laws
