pub mod Below
pub mod Same
pub mod ByHalves
pub mod Table
pub mod Find
