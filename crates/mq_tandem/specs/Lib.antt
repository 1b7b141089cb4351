pub mod Stages
pub mod Rows
pub mod Bare
pub mod Padded
pub mod Linear
pub mod Bounds
pub mod Times
