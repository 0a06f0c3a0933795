pub mod OneTurn
pub mod Theorems
