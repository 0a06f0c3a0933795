pub mod ResultLines
pub mod steps
