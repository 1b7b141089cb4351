use Rattle.std.proofs.Common.{ℕ, List, sym, subst, arith}
use Rattle.mq_core.specs.Came.{came_in}
use Rattle.mq_core.specs.Sequences.{sequence_fates}
use Rattle.mq_core.specs.declared.model.Fate.{Fate}
use Rattle.mq_core.specs.declared.model.Kind.TheVariants.{Delay}
use Rattle.mq_redo.specs.Kept.{IsKeptDelay, coming_as}
use Rattle.mq_kept.proofs.Within.{staying-within}
use Rattle.mq_kept.proofs.stations.delay_again.Goals as goal

pub delayed_again-requires-clause-inside : goal.delayed_again-requires-clause-inside
delayed_again-requires-clause-inside g c =
    let load = c.args.load.now in
    let h = c.requires.stays in
    let within = staying-within c.alike_is_first.ensures (Delay c.args.demand.now) h.0 (coming_as load.rows.now load.arrivals.now) load.block c.args.stays.now h.1 in
    let even = c.requires.loaded.load.ordered.ordered.even in
    let all = c.cut-blocks.ensures.0 in
    rw c.cut-blocks.ensures.1 (omega arith)

pub delayed_again-requires-clause-kept : goal.delayed_again-requires-clause-kept
delayed_again-requires-clause-kept g c = let h = c.requires.stays in (h.0, rw (c.cut-blocks.ensures.1, c.delay-carries.ensures) h.1.0, rw c.cut-blocks.ensures.1 h.1.1)

pub returns-in-Ok-clause-checkpoints : goal.returns-in-Ok-clause-checkpoints
returns-in-Ok-clause-checkpoints g c =
    let load = c.args.load.now in
    let rows = load.rows.now in
    let arrivals = load.arrivals.now in
    let demand = c.args.demand.now in
    let done = c.in_ok-done.ensures in
    subst (λ (p : ℕ × List Fate × List ℕ). IsKeptDelay demand (coming_as rows arrivals) p.0 p.1 p.2)
    (λ k. (c.cut-blocks.ensures.1 k, sym {a = sequence_fates rows (Delay demand) (came_in arrivals)} done.departs.fates k, sym c.from_vec.ensures k)) done.kept
