use Rattle.std.proofs.Common.{◌∷◌, map, refl}
use Rattle.mq_model.specs.Printed.{demand_word, spaced}
use Rattle.mq_model.specs.SaidOf.{demand_by}
use Rattle.mq_model.proofs.Lists.{all_are, none_yet, one_more}
use Rattle.mq_model.proofs.SpacedWords.{last_part}
use Rattle.mq_model.proofs.print.push_demands.Goals as goal

pub loop-demand-init : goal.loop-demand-init
loop-demand-init c = none_yet _

pub loop-demand-preserved : goal.loop-demand-preserved
loop-demand-preserved c =
    one_more (λ ys. spaced (map demand_word (map (demand_by c.args.net.now.columns) ys))) c.args.demands.now c.loop-demand.demand-index _ _ c.args.text.now.items _ _ _ c.loop-demand.invariant c.in_ok-push_demand.ensures refl c.loop-demand-test.true (λ ys. last_part (λ word. 32 ∷ word) demand_word (demand_by c.args.net.now.columns) ys _)

pub returns : goal.returns
returns c = all_are (λ ys. spaced (map demand_word (map (demand_by c.args.net.now.columns) ys))) c.args.demands.now c.loop-demand.demand-index c.args.text.now.items _ c.loop-demand.invariant c.loop-demand-test.false
