use Rattle.std.proofs.Common.{map, refl}
use Rattle.std.specs.List.{flat_map}
use Rattle.mq_model.specs.Printed.{spaced, stage_words}
use Rattle.mq_model.specs.SaidOf.{stage_by}
use Rattle.mq_model.proofs.Lists.{all_are, none_yet, one_more}
use Rattle.mq_model.proofs.SpacedWords.{last_words}
use Rattle.mq_model.proofs.print.push_further.Goals as goal

pub loop-stage-init : goal.loop-stage-init
loop-stage-init c = none_yet _

pub loop-stage-preserved : goal.loop-stage-preserved
loop-stage-preserved c =
    one_more (λ ys. spaced (flat_map stage_words (map (stage_by c.args.net.now.columns) ys))) c.args.stages.now c.loop-stage.stage-index _ _ c.args.text.now.items _ _ _ c.loop-stage.invariant c.in_ok-push_stage.ensures refl c.loop-stage-test.true (λ ys. last_words stage_words (stage_by c.args.net.now.columns) ys _)

pub returns : goal.returns
returns c = all_are (λ ys. spaced (flat_map stage_words (map (stage_by c.args.net.now.columns) ys))) c.args.stages.now c.loop-stage.stage-index c.args.text.now.items _ c.loop-stage.invariant c.loop-stage-test.false
