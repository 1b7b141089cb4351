use Rattle.std.proofs.Common.{Some}
use Rattle.std.proofs.lemmas.Bool.Decides.{Decides-eqb}
use Rattle.std.proofs.lemmas.Slice.Eq.{strip_prefix_is}
use Rattle.mq_trace.proofs.plain_source.plain_source.Goals as goal

pub returns-in-Some : goal.returns-in-Some
returns-in-Some c = record {
  source_is = c.requires.known c.loop-source.source-index _ c.loop-source-test.true;
  begins = strip_prefix_is Decides-eqb c.args.text.now _ (Some c.in-Some.rest) c.in-Some.ensures.cases;
}
