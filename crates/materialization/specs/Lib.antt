pub mod Stages
pub mod Rest
pub mod Laws
pub mod Driving
