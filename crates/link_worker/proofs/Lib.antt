mod Assisted
mod Copied
pub mod AliasStep
pub mod Aliasing
pub mod Asking
pub mod Awaiting
pub mod Based
pub mod Calls
pub mod Collecting
pub mod FirstSeat
pub mod Freeing
pub mod Held
pub mod Knowing
pub mod NewSeats
pub mod Seeing
pub mod Sparing
pub mod Stepping
pub mod Taking
pub mod Telling
pub mod Turning
pub mod Whole
pub mod Working
