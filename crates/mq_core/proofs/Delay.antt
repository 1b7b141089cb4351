pub mod Schedules
pub mod ScheduleNumbers
pub mod Delays
pub mod DelayNumbers
pub mod DelayLaws
pub mod DelayRecurrence
pub mod DelayLimits
pub mod DelaySequences
