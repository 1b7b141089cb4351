pub mod Borrowed
pub mod Merged
