pub mod Bounds
pub mod Branches
pub mod Fronts
pub mod Runs
pub mod Servers
