pub mod Filled
pub mod Closed
pub mod Placing
pub mod Inside
pub mod Pairs
pub mod Pieces
pub mod Told
pub mod Whole
