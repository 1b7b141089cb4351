-- The lemmas that proofs of other crates cite too, a page a topic. What else stands in proofs is this crate's own.
pub mod Late
pub mod Leaves
pub mod Lists
pub mod StageFacts
