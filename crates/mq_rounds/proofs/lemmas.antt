-- The lemmas that proofs of other crates cite too, a page a topic. What else stands in proofs is this crate's own.
pub mod Departing
pub mod Fates
pub mod Guesses
pub mod Looping
pub mod Running
pub mod Windowed
