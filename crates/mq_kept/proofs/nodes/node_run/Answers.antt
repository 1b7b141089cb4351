use Rattle.std.proofs.Common.{◌≡◌, ◌+◌, ◌∷◌, ℕ, List, [], get_or, length, refl, arith}
use Rattle.std.proofs.lemmas.Result.{IfOk-weaker}
use Rattle.mq_kept.specs.NodeRuns.{IsNodeRun, came_before, earlier_rows, worked_behind}
use Rattle.mq_kept.proofs.Ended.{crowded-at, ready-all}
use Rattle.mq_kept.proofs.Numbers.{apart-worked}
use Rattle.mq_kept.proofs.nodes.node_run.Goals as goal

-- the one node that is ready
only-one : (xs : List ℕ) → length xs ≡ 1 → xs ≡ get_or xs 0 0 ∷ []
only-one [] one = absurd (omega arith)
only-one (x ∷ []) one = refl
only-one (x ∷ y ∷ xs) one = absurd (omega arith)

pub apart_run-requires-clause-one : goal.apart_run-requires-clause-one
apart_run-requires-clause-one g c κs within = only-one c.args.arriving.now.ready.now c.requires.one

pub station_run-requires-clause-one : goal.station_run-requires-clause-one
station_run-requires-clause-one g c κs within = only-one c.args.arriving.now.ready.now c.requires.one

pub returns-in-Crowded-clause-cause : goal.returns-in-Crowded-clause-cause
returns-in-Crowded-clause-cause g c =
    let s = c.args.arriving.now in
    let v = get_or s.ready.now 0 0 in
    let inside = (ready-all s c.requires.wave c.requires.one).inside in
    crowded-at s.plan.now s.rows.now v c.in-Crowded.count inside c.in-Crowded.ensures

pub returns-in-Apart-clause-counted : goal.returns-in-Apart-clause-counted
returns-in-Apart-clause-counted g c =
    let s = c.args.arriving.now in
    let v = get_or s.ready.now 0 0 in
    let old = earlier_rows s.rows.now c.args.past.now.earlier in
    let came = came_before s.rows.now old c.args.lists in
    let inside = (ready-all s c.requires.wave c.requires.one).inside in
    let none = apart-worked s came v inside c.in-Apart.ensures in
    let same : c.args.steps.now ≡ c.args.steps.now + worked_behind s came v = omega arith in
    IfOk-weaker c.apart_run.result (IsNodeRun s old c.args.lists v) (λ gives. c.args.steps.now ≡ c.args.steps.now + worked_behind s came v) (λ gives h. same) c.apart_run.ensures.gives
