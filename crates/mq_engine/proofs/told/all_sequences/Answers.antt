use Rattle.std.proofs.Common.{◌∙◌, map, ap, arith}
use Rattle.std.specs.Option.{option_map}
use Rattle.std.proofs.lemmas.List.{length-map}
use Rattle.std.proofs.lemmas.Option.{slice_get-map}
use Rattle.mq_counts.proofs.Lists.{each-has}
use Rattle.mq_exits.specs.Results.{IsWorkedOut}
use Rattle.mq_exits.specs.Turns.{result_given}
use Rattle.mq_engine.specs.Counting.{IsKeepingTurn}
use Rattle.mq_engine.proofs.Numbers.{sequences-all, sequences-more, sequences-none}
use Rattle.mq_engine.proofs.told.all_sequences.Goals as goal

pub loop-at-init : goal.loop-at-init
loop-at-init c = sequences-none c.args.plan.now c.args.rows.now (map result_given c.args.given.now) _ c.new-all.ensures

pub sequences_of-requires-clause-known : goal.sequences_of-requires-clause-known
sequences_of-requires-clause-known c =
    each-has (IsWorkedOut c.args.plan.now c.args.rows.now) (map result_given c.args.given.now) c.loop-at.at (result_given c.get.result.now) c.requires.known
    (slice_get-map result_given c.args.given.now c.loop-at.at ∙ ap (option_map result_given) c.get.ensures)

pub sequences_of-requires-clause-turn : goal.sequences_of-requires-clause-turn
sequences_of-requires-clause-turn c = each-has IsKeepingTurn c.args.given.now c.loop-at.at c.get.result.now c.requires.turn c.get.ensures

pub loop-at-preserved : goal.loop-at-preserved
loop-at-preserved c =
    sequences-more c.args.plan.now c.args.rows.now (map result_given c.args.given.now) c.loop-at.at c.loop-at.all _ (result_given c.get.result.now) c.sequences_of.result c.loop-at.invariant
    (slice_get-map result_given c.args.given.now c.loop-at.at ∙ ap (option_map result_given) c.get.ensures) c.sequences_of.ensures.countable c.sequences_of.ensures.of c.in_ok-push.ensures.ok

pub returns : goal.returns
returns c =
    let same = length-map c.args.given.now result_given in
    sequences-all c.args.plan.now c.args.rows.now (map result_given c.args.given.now) c.loop-at.at c.loop-at.all c.loop-at.invariant (omega arith)
