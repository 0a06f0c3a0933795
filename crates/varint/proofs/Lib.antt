pub mod Back
pub mod Laws
pub mod Marked
pub mod Prefix
pub mod RoundTrip
pub mod Theorems
pub mod Writing
