pub mod QueueRule
pub mod Runs
pub mod Texts
pub mod Files
pub mod Clauses
