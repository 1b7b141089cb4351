pub mod Book
pub mod QueueRule
pub mod Ends
pub mod Scenario
pub mod Sweep
