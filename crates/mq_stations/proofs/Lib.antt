pub mod lemmas
mod LossFates
mod TrunkFates
mod FirstLate
