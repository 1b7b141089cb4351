pub mod Wired
pub mod Soundness
pub mod Whole
pub mod NetworkRuns
pub mod Told
