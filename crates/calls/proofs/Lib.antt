pub mod Slims
pub mod Singles
pub mod Rise
pub mod Stay
pub mod Reached
pub mod Ranks
pub mod Runs
pub mod Theorems
