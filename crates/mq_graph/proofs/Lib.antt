pub mod Complete
pub mod RankSteps
pub mod Ready
pub mod Cycles
