-- What holds of each item of a list, by index, and what a loop has made of one so far.
pub use Rattle.mq_base.proofs.lemmas.Each.{Each-get, Each-get_or}
pub use Rattle.mq_asked.proofs.lemmas.Lists.{map-more}
