pub mod Boards
pub mod Steps
pub mod Tests
pub mod InOne
pub mod Theorems
pub mod Cuts
pub mod Beside
