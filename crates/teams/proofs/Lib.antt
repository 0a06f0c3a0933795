pub mod Joins
pub mod Teams
pub mod Puts
pub mod Theorems
