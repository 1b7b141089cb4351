use Rattle.std.proofs.Common.{◌∙◌, arith, refl}
use Rattle.mq_edits.proofs.WordFacts.{value_bad_at, value_end_at, value_more_at, value_taken_at, values_all}
use Rattle.mq_edits.proofs.line.read_values.Goals as goal

pub returns-in_default-clause-err : goal.returns-in_default-clause-err
returns-in_default-clause-err c = λ _. c.loop-index.invariant.left ∙ value_bad_at c.args.line c.args.number c.loop-index.index c.args.words.now _ c.loop-index-test.true c.in_default.ensures

pub loop-index-preserved : goal.loop-index-preserved
loop-index-preserved c = record {
  left = c.loop-index.invariant.left ∙ value_more_at c.args.line c.args.number c.loop-index.index c.in-Some.value c.args.words.now _ c.loop-index-test.true c.in-Some.ensures;
  held = rw (c.in_ok-push.ensures.ok, c.loop-index.invariant.held, value_taken_at c.loop-index.index c.in-Some.value c.args.words.now _ c.loop-index-test.true c.in-Some.ensures) refl;
}

pub returns-clause-ok : goal.returns-clause-ok
returns-clause-ok c = (
  c.loop-index.invariant.left ∙ value_end_at c.args.line c.args.number c.loop-index.index c.args.words.now (omega (arith, c.loop-index-test.false)),
  values_all c.loop-index.index c.args.words.now c.loop-index.values (omega (arith, c.loop-index-test.false)) c.loop-index.invariant.held,
)
