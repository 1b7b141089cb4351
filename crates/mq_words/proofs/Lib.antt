mod WordRows
pub mod FoundRows
pub mod Walks
pub mod Reading
pub mod ReadWords
pub mod Matches
pub mod Faults
