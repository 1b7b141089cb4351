use Rattle.std.proofs.Common.{map}
use Rattle.std.specs.List.{flat_map}
use Rattle.mq_model.specs.Printed.{barred_words, spaced}
use Rattle.mq_model.specs.SaidOf.{demand_by}
use Rattle.mq_model.proofs.Lists.{all_are, none_yet, one_more}
use Rattle.mq_model.proofs.SpacedWords.{last_words}
use Rattle.mq_model.proofs.print.push_further_branches.Goals as goal

pub loop-demands-init : goal.loop-demands-init
loop-demands-init c = none_yet _

pub loop-demands-preserved : goal.loop-demands-preserved
loop-demands-preserved c =
    one_more (λ ys. spaced (flat_map barred_words (map (map (demand_by c.args.net.now.columns)) ys))) c.args.branches.now c.loop-demands.demands-index _ _ c.args.text.now.items _ _ _ c.loop-demands.invariant (rw c.as_slice.ensures at c.in_ok-push_barred.ensures) c.demands-item.is c.loop-demands-test.true (λ ys. last_words barred_words (map (demand_by c.args.net.now.columns)) ys _)

pub returns : goal.returns
returns c = all_are (λ ys. spaced (flat_map barred_words (map (map (demand_by c.args.net.now.columns)) ys))) c.args.branches.now c.loop-demands.demands-index c.args.text.now.items _ c.loop-demands.invariant c.loop-demands-test.false
