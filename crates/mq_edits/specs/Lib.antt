pub mod Edited
pub mod Edits
pub mod Examples
pub mod Former
