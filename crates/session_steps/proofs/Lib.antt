mod Elements
mod Counting
mod Lawful
mod Telling
mod Rested
mod Standing
mod RightCalls
mod TrackerHomes
mod NewUnits
mod TakenJobs
mod StoredMemory
mod FreeRanges
mod Placings
mod Lodging
mod Emission
mod Generating
pub mod Crossing
pub mod Declared
