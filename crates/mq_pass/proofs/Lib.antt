pub mod Serving
pub mod Publishing
pub mod Passes
pub mod Lefts
pub mod Together
pub mod Ending
