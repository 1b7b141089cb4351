pub mod Recurrence
