pub mod Beginning
pub mod Called
pub mod Driving
pub mod Going
pub mod Leaving
pub mod Seats
pub mod Stopping
pub mod Unbased
