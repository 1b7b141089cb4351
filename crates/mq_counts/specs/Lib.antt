pub mod Counts
pub mod Later
pub mod Leaving
pub mod Runs
pub mod Seen
pub mod TailPieces
pub mod Tails
pub mod Totals
