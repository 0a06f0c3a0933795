pub mod Blocks
pub mod Tests
