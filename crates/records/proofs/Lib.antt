pub mod Rests
pub mod Inputs
pub mod Commands
pub mod Beside
