pub mod Inside
pub mod Parts
