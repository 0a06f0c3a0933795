pub mod TeamAlike
