pub mod Slims
pub mod OneCall
pub mod Runs
pub mod Turns
pub mod Edges
