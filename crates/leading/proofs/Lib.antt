pub mod Found
pub mod Takes
pub mod Records
pub mod Windows
pub mod Theorems
