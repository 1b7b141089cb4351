pub mod Demands
pub mod Places
