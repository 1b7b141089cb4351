pub mod Below
pub mod Copies
pub mod Gathers
pub mod Items
pub mod Rising
pub mod Visits
