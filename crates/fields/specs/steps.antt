pub mod Reads
pub mod Sorts
