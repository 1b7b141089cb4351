pub mod RecurrenceRows
pub mod ShortRuns
pub mod WorkedRows
pub mod TandemRows
pub mod ForkJoinRows
pub mod LossRows
pub mod JoinRows
pub mod TrunkRows
