pub mod Kinds
pub mod Magic
pub mod Views
pub mod steps
