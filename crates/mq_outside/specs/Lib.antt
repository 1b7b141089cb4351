pub mod Memory
pub mod Outside
pub mod Pieces
pub mod Reading
pub mod Writing
