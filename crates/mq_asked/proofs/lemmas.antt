-- The lemmas that proofs of other crates cite too.
pub mod Lists
