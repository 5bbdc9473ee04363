pub mod Rings
pub mod Objects
pub mod Graphs
pub mod Laws
