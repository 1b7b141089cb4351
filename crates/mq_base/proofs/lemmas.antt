-- The lemmas that the proofs of other crates cite too, one page per topic. Everything else in proofs is this crate's own.
pub mod Between
pub mod Counts
pub mod Digits
pub mod Each
pub mod FlatMaps
pub mod Lines
pub mod Lists
pub mod Numbers
pub mod Tests
pub mod Zips
