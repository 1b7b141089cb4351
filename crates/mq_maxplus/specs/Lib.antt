pub mod Maxplus
pub mod Matrices
pub mod Padded
pub mod Within
