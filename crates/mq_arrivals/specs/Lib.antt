pub mod Arrivals
pub mod Merges
