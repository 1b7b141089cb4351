pub mod Header
pub mod Joined
pub mod Pieces
pub mod Plain
pub mod Quotes
pub mod Reading
pub mod Records
pub mod Trace
