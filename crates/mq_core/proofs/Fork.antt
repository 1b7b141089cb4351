pub mod Forks
pub mod ForkLaws
pub mod ForkLimits
pub mod ForkSequences
pub mod ForkArrivals
pub mod ForkStation
