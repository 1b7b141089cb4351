pub mod BoundedStations
pub mod BoundedKinds
pub mod BoundedArrivals
pub mod BoundedRanks
pub mod BoundedAsked
