pub mod Tests
pub mod Whole
pub mod Records
pub mod Arguments
