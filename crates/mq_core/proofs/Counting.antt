pub mod SequenceNumbers
pub mod Reordered
pub mod Unlost
pub mod Released
pub mod Services
pub mod FlowSequences
pub mod Stays
