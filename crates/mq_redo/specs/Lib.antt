pub mod Alone
pub mod Behind
pub mod Branches
pub mod Doing
pub mod Kept
pub mod Stages
pub mod Staying
