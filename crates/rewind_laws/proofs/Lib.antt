pub mod Standing
pub mod Walk
pub mod Theorems
