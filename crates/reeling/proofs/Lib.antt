pub mod Keeps
pub mod Beside
pub mod Turns
pub mod Edges
pub mod Theorems
