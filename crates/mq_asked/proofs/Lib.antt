pub mod lemmas
mod Standing
