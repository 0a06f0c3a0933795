pub mod Ladder
pub mod Rounds
