pub mod lemmas
mod PiecesLemmas
mod Puts
mod ReadLemmas
