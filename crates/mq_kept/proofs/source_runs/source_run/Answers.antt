use Rattle.std.proofs.Common.{◌≡◌, ◌≤◌, ◌∙◌, ap, length-append, subst, sym, take, arith}
use Rattle.std.proofs.lemmas.List.{length-take-le}
use Rattle.std.proofs.lemmas.Option.{slice_get_within}
use Rattle.mq_alike.specs.Again.{alike}
use Rattle.mq_base.proofs.lemmas.Lists.{some_inj}
use Rattle.mq_core.specs.Laws.{Rises}
use Rattle.mq_core.specs.SequenceLaws.{sends_once}
use Rattle.mq_core.specs.declared.model.Node.{Node}
use Rattle.mq_edits.specs.Former.{rows_before}
use Rattle.mq_kept.proofs.SourceLoads.{former-even, visits-rise}
use Rattle.mq_kept.proofs.Unchanged.{station-unchanged}
use Rattle.mq_kept.specs.KeptNodes.{coming_of}
use Rattle.mq_kept.specs.SourceTails.{ComeBefore, IsKeptSource}
use Rattle.mq_kept.specs.Tails.{coming_behind}
use Rattle.mq_redo.specs.Kept.{coming_as}
use Rattle.mq_kept.proofs.source_runs.source_run.Goals as goal

pub source_tail-requires-clause-kept : goal.source_tail-requires-clause-kept
source_tail-requires-clause-kept c = (c.args.arriving.now.plan.now, record { source = c.requires.source; read = c.requires.read; earlier = c.requires.earlier; known = c.requires.kept.known })

pub before_changes-first-requires-clause-was : goal.before_changes-first-requires-clause-was
before_changes-first-requires-clause-was c = former-even c.core_laws.ensures c.args.arriving.now.plan.now c.args.former.now c.args.arriving.now.rows.now c.args.number c.args.lists c.requires.former (record { source = c.requires.source; read = c.requires.read; earlier = c.requires.earlier; known = c.requires.kept.known })

pub before_changes-first-requires-clause-rising : goal.before_changes-first-requires-clause-rising
before_changes-first-requires-clause-rising c =
    subst (Rises (λ a b. a ≤ b)) (sym c.as_slice.ensures) (visits-rise c.core_laws.ensures c.args.arriving.now.plan.now c.args.former.now c.args.arriving.now.rows.now c.args.number c.args.lists c.requires.former (record { source = c.requires.source; read = c.requires.read; earlier = c.requires.earlier; known = c.requires.kept.known }))

pub source_tail-requires-clause-first : goal.source_tail-requires-clause-first
source_tail-requires-clause-first c = subst (λ l. ComeBefore c.args.number c.args.former.now c.args.arriving.now.rows.now l c.before_changes-first.result) c.as_slice.ensures c.before_changes-first.ensures

pub get-requires : goal.get-requires
get-requires c = slice_get_within c.args.arriving.now.plan.now.net.nodes c.args.number c.requires.source.0 c.requires.source.1

pub returns-then-count-visits-2-clause-gives : goal.returns-then-count-visits-2-clause-gives
returns-then-count-visits-2-clause-gives c =
    let s = c.args.arriving.now in
    let v = c.args.number in
    let lists = c.args.lists in
    let old = rows_before c.args.former.now s.rows.now in
    let tail = c.in-Ok.tail in
    let node = c.get.result.now in
    let there = c.get.ensures in
    let arrivals = coming_behind tail.from lists.visits tail.arrivals.job tail.arrivals.time in
    let kept : IsKeptSource s.plan.now c.args.former.now s.rows.now v lists = record { source = c.requires.source; read = c.requires.read; earlier = c.requires.earlier; known = c.requires.kept.known } in
    let within = c.in-Ok.ensures.within in
    let front = length-take-le tail.from lists.visits.job within in
    let whole = length-append (take tail.from lists.visits.job) tail.arrivals.job in
    let some = c.len.ensures in
    let visits = c.len-visits.ensures in
    let more = c.if-count-visits-2.true in
    let all = c.if-tail-visits.true in
    let kind = sym c.requires.source.2 ∙ ap (λ (n : Node). n.kind) (some_inj c.requires.source.0 node (sym c.requires.source.1 ∙ there)) in
    let left = c.unchanged_run.ensures in
    station-unchanged c.core_laws.ensures s old v node lists c.unchanged_run.result there c.requires.earlier c.requires.read c.requires.kept
    (record { lists_are = left.lists; former = left.former; again = left.again; all = left.all; few = left.few })
    c.sequences_stay.ensures c.alike_is_first.ensures arrivals (c.in-Ok.ensures.loaded s.plan.now kept) tail.from tail.from tail.from (sym (ap sends_once kind))
    (subst (λ k. tail.from ≡ alike k (coming_of old lists.visits) (coming_as s.rows.now arrivals)) kind c.in-Ok.ensures.same) (omega arith) (omega arith) (omega arith) (omega arith)

pub edited_run-requires-clause-tail : goal.edited_run-requires-clause-tail
edited_run-requires-clause-tail c =
    let longer = c.if-count-visits.false in
    let some = c.len.ensures in
    let visits = c.len-visits.ensures in
    c.in-Ok.ensures.fits c.args.arriving.now.plan.now (record { source = c.requires.source; read = c.requires.read; earlier = c.requires.earlier; known = c.requires.kept.known }) (omega arith)

pub returns-in-Ok-edited_run-clause-gives : goal.returns-in-Ok-edited_run-clause-gives
returns-in-Ok-edited_run-clause-gives c =
    let old = rows_before c.args.former.now c.args.arriving.now.rows.now in
    c.in-Ok-edited_run.ensures.gives old c.requires.earlier c.requires.kept c.in-Ok.ensures.same
