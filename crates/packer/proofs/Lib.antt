pub mod Joined
pub mod Parts
pub mod Places
pub mod Reading
pub mod Texts
pub mod Theorems
