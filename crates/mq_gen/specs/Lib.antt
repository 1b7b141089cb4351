pub mod Accepted
pub mod Drawing
pub mod Made
