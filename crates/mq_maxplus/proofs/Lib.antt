pub mod Laws
pub mod Vectors
pub mod MatrixLaws
pub mod Columns
pub mod Within
