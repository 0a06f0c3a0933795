pub mod Slims
pub mod Keeping
pub mod Beside
pub mod Turns
pub mod Edges
