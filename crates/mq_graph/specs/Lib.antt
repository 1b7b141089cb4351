pub mod Rank
pub mod Cycle
