pub mod TrunkFlow
pub mod Trunks
pub mod TrunkNumbers
pub mod TrunkLaws
pub mod TrunkLimits
pub mod TrunkRecurrence
pub mod TrunkSequences
