mod Noting
mod OneMore
mod Prefixes
mod Telling
pub mod Asked
pub mod Calling
pub mod Dylibs
pub mod Events
pub mod Giving
pub mod Others
pub mod Passing
pub mod Told
pub mod Unlodged
