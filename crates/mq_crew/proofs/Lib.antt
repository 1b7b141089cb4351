pub mod lemmas
pub mod Working
pub mod Placing
pub mod Grouping
pub mod Schedules
