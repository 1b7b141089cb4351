pub mod Told
pub mod MadeRuns
pub mod Exits
pub mod Clauses
