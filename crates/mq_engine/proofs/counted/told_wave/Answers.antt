use Rattle.std.proofs.Common.{◌∙◌, sym}
use Rattle.std.proofs.lemmas.List.{length-map}
use Rattle.std.proofs.lemmas.Result.{IfOk-weaker}
use Rattle.mq_exits.specs.Turns.{result_given}
use Rattle.mq_exits.specs.declared.keeping.Keep.TheVariants.{Numbers}
use Rattle.mq_engine.proofs.Settling.{results-known}
use Rattle.mq_engine.proofs.Telling.{given-results, turns-kept}
use Rattle.mq_engine.proofs.counted.told_wave.Goals as goal

pub counts_of_wave-requires-clause-known : goal.counts_of_wave-requires-clause-known
counts_of_wave-requires-clause-known g c κs inside =
    let s = c.args.arriving.now in
    results-known s.plan.now s.rows.now s.ready.now _ (given-results Numbers s.plan.now s.rows.now s.ready.now c.in_ok-given.given c.in_ok-given.ensures.known)

pub counts_of_wave-requires-clause-turn : goal.counts_of_wave-requires-clause-turn
counts_of_wave-requires-clause-turn g c κs inside = let s = c.args.arriving.now in turns-kept Numbers s.plan.now s.rows.now s.ready.now c.in_ok-given.given c.in_ok-given.ensures.known

pub told_nodes-requires : goal.told_nodes-requires
told_nodes-requires g c = record { even = c.in-Ok.ensures.len ∙ length-map c.in_ok-given.given result_given }

pub returns-in-Ok-clause-len : goal.returns-in-Ok-clause-len
returns-in-Ok-clause-len g c = IfOk-weaker c.told_nodes.result _ _ (λ told e. e ∙ c.in_ok-given.ensures.len) c.told_nodes.ensures.len

pub returns-in-Ok-clause-told : goal.returns-in-Ok-clause-told
returns-in-Ok-clause-told g c =
    let s = c.args.arriving.now in
    IfOk-weaker c.told_nodes.result _ _
    (λ told h. h s.plan.now s.rows.now c.args.form s.ready.now (sym c.as_slice.ensures) (given-results Numbers s.plan.now s.rows.now s.ready.now c.in_ok-given.given c.in_ok-given.ensures.known) c.in-Ok.ensures) c.told_nodes.ensures.told
