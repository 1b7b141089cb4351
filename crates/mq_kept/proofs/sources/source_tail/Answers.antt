use Rattle.std.proofs.Common.{◌≡◌, ◌∙◌, ℕ, ◌+◌, ◌≤◌, List, ap, drop, length, subst, sym, arith}
use Rattle.std.proofs.lemmas.List.{length-drop}
use Rattle.mq_alike.specs.Again.{alike}
use Rattle.mq_core.specs.declared.model.Kind.TheVariants.{Source}
use Rattle.mq_edits.specs.Former.{rows_before}
use Rattle.mq_exits.specs.Loads.{IsLoaded}
use Rattle.mq_kept.proofs.SourceLoads.{tail-fits, tail-loaded, tail-same, visits-even, visits-rise}
use Rattle.mq_kept.proofs.SourceRows.{rest-from}
use Rattle.mq_kept.specs.KeptNodes.{coming_of}
use Rattle.mq_kept.specs.SourceTails.{AreFirstSame}
use Rattle.mq_kept.specs.Tails.{IsTailFor, coming_behind}
use Rattle.mq_redo.specs.Kept.{coming_as}
use Rattle.mq_kept.proofs.sources.source_tail.Goals as goal

pub arrivals_from-requires-clause-even : goal.arrivals_from-requires-clause-even
arrivals_from-requires-clause-even c = visits-even c.core_laws.ensures c.requires.kept.0 c.args.former.now c.args.rows.now c.args.number c.args.lists.now c.requires.former c.requires.kept.1

pub arrivals_from-requires-clause-rising : goal.arrivals_from-requires-clause-rising
arrivals_from-requires-clause-rising c = visits-rise c.core_laws.ensures c.requires.kept.0 c.args.former.now c.args.rows.now c.args.number c.args.lists.now c.requires.former c.requires.kept.1

pub arrivals_from-requires-clause-first : goal.arrivals_from-requires-clause-first
arrivals_from-requires-clause-first c =
    let even = visits-even c.core_laws.ensures c.requires.kept.0 c.args.former.now c.args.rows.now c.args.number c.args.lists.now c.requires.former c.requires.kept.1 in
    let within = c.requires.first.within in
    omega arith

pub offset_bounds-as_slice-first : goal.offset_bounds-as_slice-first
offset_bounds-as_slice-first c =
    let even = visits-even c.core_laws.ensures c.requires.kept.0 c.args.former.now c.args.rows.now c.args.number c.args.lists.now c.requires.former c.requires.kept.1 in
    let within = c.requires.first.within in
    let jobs = ap length c.as_slice.ensures in
    omega arith

pub slice_bounds-jobs-count : goal.slice_bounds-jobs-count
slice_bounds-jobs-count c =
    let even = visits-even c.core_laws.ensures c.requires.kept.0 c.args.former.now c.args.rows.now c.args.number c.args.lists.now c.requires.former c.requires.kept.1 in
    let within = c.requires.first.within in
    let jobs = ap length c.as_slice.ensures in
    omega arith

pub slice_bounds-jobs-start : goal.slice_bounds-jobs-start
slice_bounds-jobs-start c =
    let even = visits-even c.core_laws.ensures c.requires.kept.0 c.args.former.now c.args.rows.now c.args.number c.args.lists.now c.requires.former c.requires.kept.1 in
    let within = c.requires.first.within in
    let jobs = ap length c.as_slice.ensures in
    omega arith

pub same_arrivals-same-requires-clause-came : goal.same_arrivals-same-requires-clause-came
same_arrivals-same-requires-clause-came c =
    let first = c.args.first in
    let even = visits-even c.core_laws.ensures c.requires.kept.0 c.args.former.now c.args.rows.now c.args.number c.args.lists.now c.requires.former c.requires.kept.1 in
    let jobs = ap length c.as_slice.ensures in
    let times = ap length c.as_slice-2.ensures in
    let left = ap length (rest-from first c.as_slice.result.now) ∙ length-drop first c.as_slice.result.now in
    let left' = ap length (rest-from first c.as_slice-2.result.now) ∙ length-drop first c.as_slice-2.result.now in
    omega arith

-- so many of the others are the first arrivals
others : (c : goal.After-without_first-2) →
    AreFirstSame (drop c.args.first c.args.lists.now.visits.job) (drop c.args.first c.args.lists.now.visits.arrive) c.in_ok-arrivals.arrivals.job c.in_ok-arrivals.arrivals.time c.same_arrivals-same.result
others c =
    let first = c.args.first in
    let arrivals = c.in_ok-arrivals.arrivals in
    subst (λ (l : List ℕ × List ℕ). AreFirstSame l.0 l.1 arrivals.job arrivals.time c.same_arrivals-same.result)
    (λ k. ((rest-from first c.as_slice.result.now ∙ ap (drop first) c.as_slice.ensures) k, (rest-from first c.as_slice-2.result.now ∙ ap (drop first) c.as_slice-2.ensures) k)) c.same_arrivals-same.ensures

pub returns-clause-loaded : goal.returns-clause-loaded
returns-clause-loaded c = λ plan kept.
    let lists = c.args.lists.now in
    let from = c.args.first + c.same_arrivals-same.result in
    subst (λ (l : List ℕ × List ℕ). IsLoaded plan c.args.rows.now c.args.number (coming_behind from lists.visits l.0 l.1)) (λ k. (sym c.without_first.ensures k, sym c.without_first-2.ensures k))
    (tail-loaded c.core_laws.ensures plan c.args.former.now c.args.rows.now c.args.number lists c.requires.former kept c.args.first c.in_ok-arrivals.arrivals c.requires.first c.in_ok-arrivals.ensures.stream c.in_ok-arrivals.ensures.items c.same_arrivals-same.result (others c))

pub returns-clause-fits : goal.returns-clause-fits
returns-clause-fits c = λ plan kept.
    let lists = c.args.lists.now in
    let from = c.args.first + c.same_arrivals-same.result in
    subst (λ (l : List ℕ × List ℕ). length lists.visits.job ≤ from + length l.0 → IsTailFor plan c.args.rows.now c.args.number lists from l.0 l.1 l.1) (λ k. (sym c.without_first.ensures k, sym c.without_first-2.ensures k))
    (tail-fits c.core_laws.ensures plan c.args.former.now c.args.rows.now c.args.number lists c.requires.former kept c.args.first c.in_ok-arrivals.arrivals c.requires.first c.in_ok-arrivals.ensures.stream c.in_ok-arrivals.ensures.items c.same_arrivals-same.result (others c))

pub returns-clause-same : goal.returns-clause-same
returns-clause-same c =
    let lists = c.args.lists.now in
    let kept = c.requires.kept in
    let from = c.args.first + c.same_arrivals-same.result in
    subst (λ (l : List ℕ × List ℕ). from ≡ alike Source (coming_of (rows_before c.args.former.now c.args.rows.now) lists.visits) (coming_as c.args.rows.now (coming_behind from lists.visits l.0 l.1))) (λ k. (sym c.without_first.ensures k, sym c.without_first-2.ensures k))
    (tail-same c.core_laws.ensures kept.0 c.args.former.now c.args.rows.now c.args.number lists c.requires.former kept.1 c.args.first c.in_ok-arrivals.arrivals c.requires.first c.in_ok-arrivals.ensures.stream c.in_ok-arrivals.ensures.items c.same_arrivals-same.result (others c))

pub returns-clause-within : goal.returns-clause-within
returns-clause-within c =
    let even = visits-even c.core_laws.ensures c.requires.kept.0 c.args.former.now c.args.rows.now c.args.number c.args.lists.now c.requires.former c.requires.kept.1 in
    let within = c.requires.first.within in
    let same = (others c).within in
    let left = length-drop c.args.first c.args.lists.now.visits.job in
    omega arith
