pub mod Afters
pub mod Keeping
pub mod Loads
pub mod NodeLaws
pub mod Refusals
pub mod Results
pub mod Turns
