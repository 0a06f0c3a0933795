pub mod Manies
