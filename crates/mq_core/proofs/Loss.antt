pub mod LossFlow
pub mod Loses
pub mod LossTallies
pub mod LossBusy
pub mod LossSequences
pub mod LossLaws
pub mod LossRecurrence
pub mod LossLimits
