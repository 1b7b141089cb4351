pub mod Bounded
pub mod Asking
mod First
mod Former
mod Same
mod Whole
mod Known
