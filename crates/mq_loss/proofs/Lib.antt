pub mod Departing
pub mod Fates
pub mod Looping
pub mod Reading
pub mod Repeating
pub mod Rows
pub mod Windowed
