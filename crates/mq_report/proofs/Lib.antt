pub mod Loops
pub mod JobLines
