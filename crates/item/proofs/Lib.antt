pub mod Apart
pub mod Lengths
