pub mod Recurrence
pub mod ForkJoining
mod Departing
pub mod Carries
mod Serving
