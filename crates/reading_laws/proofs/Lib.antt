pub mod CausesOfActs
pub mod Answered
pub mod Theorems
