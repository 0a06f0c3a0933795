pub mod Answers
pub mod Trips
pub mod Determined
pub mod Refusals
pub mod Theorems
