pub mod Merging
pub mod Moves
pub mod Sorted
pub mod CoRanks
