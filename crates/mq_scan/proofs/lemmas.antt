-- The lemmas that the proofs of other crates cite too, one page per topic. Everything else in proofs is this crate's own.
pub mod Blocks
