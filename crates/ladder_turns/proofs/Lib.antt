pub mod Ticks
pub mod Climb
pub mod Rounds
pub mod OneTurn
pub mod Text
pub mod Theorems
