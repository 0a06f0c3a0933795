pub mod Board
pub mod Back
pub mod TeamBoard
pub mod Undo
