pub mod Sequences
pub mod Tails
pub mod Text
