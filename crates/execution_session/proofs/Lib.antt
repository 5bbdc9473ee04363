pub mod Listless
pub mod Opening
pub mod Entries
pub mod GivingUp
pub mod Collected
pub mod HeldCalls
pub mod Crossing
