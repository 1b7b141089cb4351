-- The lemmas that the proofs of other crates cite too, one page per topic. Everything else in proofs is this crate's own.
pub mod Demands
pub mod Orders
pub mod Over
pub mod Picked
pub mod Plans
pub mod Rising
pub mod Matches
pub mod Tandems
