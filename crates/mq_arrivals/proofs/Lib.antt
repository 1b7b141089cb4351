pub mod Sorted
pub mod Comings
