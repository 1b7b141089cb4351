use Rattle.std.proofs.Common.{◌∷◌, map, refl}
use Rattle.std.specs.Prelude.{decimal}
use Rattle.mq_model.specs.Printed.{spaced}
use Rattle.mq_model.proofs.Lists.{all_are, none_yet, one_more}
use Rattle.mq_model.proofs.SpacedWords.{last_word}
use Rattle.mq_model.proofs.print.push_numbers.Goals as goal

pub loop-number-init : goal.loop-number-init
loop-number-init c = none_yet _

pub loop-number-preserved : goal.loop-number-preserved
loop-number-preserved c =
    one_more (λ ys. spaced (map decimal ys)) c.args.numbers.now c.loop-number.number-index _ _ c.args.text.now.items _ _ _ c.loop-number.invariant c.in_ok-push_number.ensures refl c.loop-number-test.true (λ ys. last_word (λ word. 32 ∷ word) decimal ys _)

pub returns : goal.returns
returns c = all_are (λ ys. spaced (map decimal ys)) c.args.numbers.now c.loop-number.number-index c.args.text.now.items _ c.loop-number.invariant c.loop-number-test.false
