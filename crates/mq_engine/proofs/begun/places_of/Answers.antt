use Rattle.std.proofs.Common.{◌≤◌, List, length, subst, sym, arith}
use Rattle.std.specs.List.{AllByRecursion}
use Rattle.mq_base.proofs.lemmas.Each.{Each-weaker}
use Rattle.mq_crew.specs.Crew.{AreAll}
use Rattle.mq_merge.specs.Borrowed.{stream_in}
use Rattle.mq_arrivals.specs.Arrivals.{HasArrived}
use Rattle.mq_arrivals.specs.declared.nodes.Arrived.{Arrived}
use Rattle.mq_exits.specs.Loads.{IsLoaded}
use Rattle.mq_engine.specs.Places.{IsArrivedAt, IsServingFor}
use Rattle.mq_engine.proofs.Waves.{has-loaded}
use Rattle.mq_engine.proofs.begun.places_of.Goals as goal

pub made-requires-after_bounds : goal.made-requires-after_bounds
made-requires-after_bounds g c κs within =
    let s = c.args.arriving.now in
    let all = c.in_ok-arrived.arrived in
    let len = c.in_ok-arrived.ensures.len in
    let few = c.requires.arriving.nodes in
    record {
      few = subst (λ (l : List Arrived). length l ≤ 64) (sym c.as_slice.ensures) (omega arith);
      loaded = subst (AllByRecursion (λ (a : Arrived). IsLoaded s.plan.now s.rows.now a.number (stream_in a.arrivals))) (sym c.as_slice.ensures) (Each-weaker (HasArrived s) _ (λ a h. (has-loaded c.core_laws.ensures s a c.requires.arriving c.requires.early c.requires.can h).0) all c.in_ok-arrived.ensures.each);
      block = c.requires.arriving.block;
    }

pub all_placed-requires-clause-arrived : goal.all_placed-requires-clause-arrived
all_placed-requires-clause-arrived g c =
    let s = c.args.arriving.now in
    Each-weaker (HasArrived s) (IsArrivedAt s) (λ a h. has-loaded c.core_laws.ensures s a c.requires.arriving c.requires.early c.requires.can h) c.in_ok-arrived.arrived c.in_ok-arrived.ensures.each

pub all_placed-requires-clause-servings : goal.all_placed-requires-clause-servings
all_placed-requires-clause-servings g c =
    let s = c.args.arriving.now in
    subst (λ (l : List Arrived). AreAll (IsServingFor s.plan.now s.rows.now l) (length l) c.in-Ok.servings) c.as_slice.ensures c.in-Ok.ensures
