pub mod Lengths
pub mod Bodies
pub mod Ticks
pub mod Refused
pub mod Windows
pub mod Theorems
