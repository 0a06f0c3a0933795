pub mod Lents
