use Rattle.std.proofs.Common.{refl, ap, arith, drop, subst}
use Rattle.std.proofs.lemmas.List.{drop_all}
use Rattle.std.proofs.lemmas.List.Elements.{All-get_or}
use Rattle.std.proofs.lemmas.Option.{get_or_from_slice_get, slice_get_within}
use Rattle.mq_outside.proofs.lemmas.Gathers.{gathers_added, gathers_all, gathers_refused}
use Rattle.mq_core.specs.Asked.{HasDemands}
use Rattle.mq_report.specs.Sequences.{sequence_lines}
use Rattle.mq_report.proofs.Loops.{gathers_begun}
use Rattle.mq_report.proofs.JobLines.{lines-next}
use Rattle.mq_report.proofs.jobs.add_visits.Goals as goal

pub add_visit-requires-clause-told : goal.add_visit-requires-clause-told
add_visit-requires-clause-told g c =
    let jobs = c.args.visits.now.job in
    let at = c.loop-at.at in
    let inside = slice_get_within jobs at c.get.result.now c.get.ensures in
    let told = All-get_or (λ job. HasDemands c.args.rows.now c.args.kind.now job) jobs at 0 inside c.requires.visits.told in
    subst (λ job. HasDemands c.args.rows.now c.args.kind.now job) (get_or_from_slice_get jobs at c.get.result.now 0 c.get.ensures) told

pub loop-at-preserved : goal.loop-at-preserved
loop-at-preserved g c =
    gathers_added _ (lines-next c.args.rows.now c.args.name.now c.args.kind.now c.args.visits.now.job c.args.visits.now.arrive c.args.visits.now.fate c.loop-at.at _ _ _ c.get.ensures c.get-in-loop-at.ensures c.at-fate.ensures) c.loop-at.invariant c.in_ok-add_visit.ensures

pub returns-in_err-add_visit : goal.returns-in_err-add_visit
returns-in_err-add_visit g c =
    gathers_refused _ c.from_residual.ensures.0 _ (lines-next c.args.rows.now c.args.name.now c.args.kind.now c.args.visits.now.job c.args.visits.now.arrive c.args.visits.now.fate c.loop-at.at _ _ _ c.get.ensures c.get-in-loop-at.ensures c.at-fate.ensures) c.loop-at.invariant c.in_err-add_visit.ensures

pub loop-at-init : goal.loop-at-init
loop-at-init g c = gathers_begun _ _ _ _ _ _ refl

pub returns : goal.returns
returns g c =
    let visits = c.args.visits.now in
    let at = c.loop-at.at in
    gathers_all (ap (λ jobs. sequence_lines c.args.rows.now c.args.name.now c.args.kind.now jobs (drop at visits.arrive) (drop at visits.fate)) (drop_all at visits.job (omega arith))) c.loop-at.invariant
