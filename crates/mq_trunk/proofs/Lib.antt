pub mod Fates
pub mod Keeping
pub mod Known
pub mod Looping
pub mod Parting
pub mod Streaming
