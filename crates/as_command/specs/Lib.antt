pub mod Clauses
pub mod Found
pub mod Laws
pub mod Stops
