pub mod OneTurn
pub mod Whole
pub mod Theorems
