pub mod Postings
pub mod Keeps
pub mod Folding
pub mod Schedules
