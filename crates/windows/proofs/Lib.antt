pub mod AtHand
pub mod Wants
pub mod Whole
pub mod Bound
pub mod EnoughTurns
pub mod Rounds
pub mod Telling
pub mod Teams
