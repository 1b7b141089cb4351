pub mod Branches
pub mod ForkJoins
pub mod Lefts
pub mod Pieces
pub mod Servers
pub mod Table
pub mod Tandems
