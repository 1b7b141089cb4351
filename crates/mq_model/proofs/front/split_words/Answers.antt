use Rattle.std.proofs.Common.{refl, arith}
use Rattle.std.proofs.lemmas.Grind.{common_steps}
use Rattle.mq_model.proofs.TextFacts.{all_words, last_words, more_words}
use Rattle.mq_model.proofs.front.split_words.Goals as goal

pub loop-span-init : goal.loop-span-init
loop-span-init c = record { words = rw (c.new-words.ensures.items) (all_words c.args.line.now); within = omega arith; few = rw (c.new-words.ensures.items) (omega arith) }

pub loop-span-preserved : goal.loop-span-preserved
loop-span-preserved c = record {
  words = rw (c.in_ok-push.ensures.items) (more_words _ _ _ _ _ c.loop-span.invariant.words c.in-Some.ensures.word);
  within = omega (arith, c.in-Some.ensures.places);
  few = grind (arith, common_steps, c.in_ok-push.ensures.items, c.in-Some.ensures.places, c.loop-span.invariant.few);
}

pub returns-clause-words : goal.returns-clause-words
returns-clause-words c = last_words _ _ _ c.loop-span.invariant.words (c.in_default.ensures.none.0 refl)
