use Rattle.std.proofs.Common.{◌∷◌, map, refl}
use Rattle.mq_model.specs.Printed.{input_word, spaced}
use Rattle.mq_model.specs.SaidOf.{input_by, names_in}
use Rattle.mq_model.proofs.Lists.{all_are, none_yet, one_more}
use Rattle.mq_model.proofs.SpacedWords.{behind_from, last_part}
use Rattle.mq_model.proofs.print.push_inputs.Goals as goal

pub loop-input-init : goal.loop-input-init
loop-input-init c = none_yet _

pub loop-input-preserved : goal.loop-input-preserved
loop-input-preserved c =
    one_more (λ ys. spaced (map input_word (map (input_by (names_in c.args.net.now)) ys))) c.args.inputs.now c.loop-input.input-index _ _ c.push_word.new.text.items _ _ _ c.loop-input.invariant c.in_ok-push_input.ensures refl c.loop-input-test.true (λ ys. last_part (λ word. 32 ∷ word) input_word (input_by (names_in c.args.net.now)) ys _)

pub returns : goal.returns
returns c = behind_from _ _ _ _ _ c.in_ok-push_word.ensures (all_are (λ ys. spaced (map input_word (map (input_by (names_in c.args.net.now)) ys))) c.args.inputs.now c.loop-input.input-index c.push_word.new.text.items _ c.loop-input.invariant c.loop-input-test.false)
