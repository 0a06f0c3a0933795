pub mod Tests
pub mod Plain
pub mod Extensions
