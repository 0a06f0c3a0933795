pub mod Telling
pub mod Ring
pub mod Keeping
pub mod Theorems
