pub mod Late
pub mod Leaving
pub mod Losses
pub mod Scans
