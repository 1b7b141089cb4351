pub mod Answer
pub mod Apart
pub mod CoreLaws
pub mod Counting
pub mod Places
pub mod Progress
pub mod Sources
pub mod Waves
