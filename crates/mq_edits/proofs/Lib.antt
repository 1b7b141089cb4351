mod FormerFacts
mod ReadFacts
mod RowFacts
mod WordFacts
