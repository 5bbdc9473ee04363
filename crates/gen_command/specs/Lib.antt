pub mod Clauses
pub mod Ends
pub mod Found
pub mod Laws
