use Rattle.std.proofs.Common.{◌≡◌, ◌∙◌, ◌*◌, ℕ, List, length, map, min, refl, subst, sym, arith}
use Rattle.mq_core.specs.declared.model.Kind.TheVariants.{Delay}
use Rattle.mq_redo.specs.Alone.{as_is, delay_job, own_only}
use Rattle.mq_redo.specs.Kept.{coming_as, delay_does}
use Rattle.mq_redo.specs.Staying.{HaveStayed, IsKeptScan}
use Rattle.mq_redo.proofs.Alone.{delayed-all}
use Rattle.mq_redo.proofs.Same.{delay-same}
use Rattle.mq_scan.specs.Folds.{carries_after}
use Rattle.mq_scan.proofs.lemmas.Blocks.{last-end}
use Rattle.mq_stations.proofs.lemmas.Leaves.{delay-departs, load-sound}
use Rattle.mq_redo.proofs.delays.delayed_again.Goals as goal

pub new-step-requires : goal.new-step-requires
new-step-requires g c = load-sound c.args.rows.now (Delay c.args.demand.now) c.args.demand.now c.args.arrivals.now c.in_ok-demands.demands c.requires.load c.requires.load.told c.in_ok-demands.ensures

pub departures_behind-requires-clause-stays : goal.departures_behind-requires-clause-stays
departures_behind-requires-clause-stays g c =
    let demand = c.args.demand.now in
    let its = c.new-step.ensures in
    let old = c.requires.kept.0 in
    let new = coming_as c.args.rows.now c.args.arrivals.now in
    let even = c.requires.kept.2.even in
    let same = c.requires.kept.2.same in
    let few = (c.alike_is_first.ensures (Delay demand) old new).old_few in
    subst (λ (z : List ℕ × List ℕ). HaveStayed as_is own_only 0 (delay_job z.0 z.1) c.args.blocks.now.block c.args.first c.args.fates.now c.args.carries.now) (λ i. (sym its.arrive i, sym (its.demands ∙ c.in_ok-demands.ensures) i))
    (record {
      does = delay_does demand old;
      jobs = length old.arrive;
      kept = c.requires.kept.1;
      within = omega arith;
      same = λ k l last. delay-same c.alike_is_first.ensures old new k demand last (omega arith);
    })

pub returns-clause-departs : goal.returns-clause-departs
returns-clause-departs g c =
    let step = c.new-step.result in
    let blocks = c.args.blocks.now in
    let sound = load-sound c.args.rows.now (Delay c.args.demand.now) c.args.demand.now c.args.arrivals.now c.in_ok-demands.demands c.requires.load c.requires.load.told c.in_ok-demands.ensures in
    let all : min (blocks.blocks * blocks.block) blocks.n ≡ length c.args.arrivals.now.time = last-end blocks blocks.blocks (omega arith) ∙ c.requires.all in
    delay-departs c.args.rows.now c.args.demand.now c.args.arrivals.now c.in_ok-demands.demands c.in_ok-done.done.times.items c.in_ok-demands.ensures
    (c.in_ok-done.ensures.done.times_are ∙ ((λ i. map as_is (carries_after own_only 0 (delay_job (c.new-step.ensures.arrive i) (c.new-step.ensures.demands i)) 0 (all i))) ∙ delayed-all c.args.arrivals.now.time c.in_ok-demands.demands sound.each))

pub returns-clause-kept : goal.returns-clause-kept
returns-clause-kept g c =
    let blocks = c.args.blocks.now in
    let done = c.in_ok-done.done in
    record {
      times = done.times.items;
      fates_are = refl;
      scan = subst (λ (z : List ℕ × List ℕ × ℕ). IsKeptScan as_is (λ k last. own_only (delay_job z.0 z.1 k) last) 0 z.2 blocks.block done.times.items done.carries.items)
          (λ i. (c.new-step.ensures.arrive i, (c.new-step.ensures.demands ∙ c.in_ok-demands.ensures) i, c.requires.all i))
          (c.done_are_kept.ensures blocks done.times.items done.carries.items c.in_ok-done.ensures.done);
    }
