mod Lists
mod Looking
mod Rows
mod Putting
mod Kept
mod Passing
mod Begins
mod Alone
mod Columns
mod Mapping
mod Running
mod LatestRows
pub mod Recurrence
