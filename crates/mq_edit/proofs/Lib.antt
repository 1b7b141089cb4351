mod Cases
pub mod Clauses
mod FileFacts
mod Told
