pub mod Jobs
pub mod Bounds
