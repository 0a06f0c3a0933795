pub mod Replay
pub mod Rows
