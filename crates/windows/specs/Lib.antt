pub mod Windows
pub mod Turns
pub mod Rounds
pub mod Telling
