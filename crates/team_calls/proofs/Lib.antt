pub mod Above
pub mod Slims
pub mod Never
pub mod Theorems
