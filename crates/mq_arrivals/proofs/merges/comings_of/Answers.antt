use Rattle.std.proofs.Common.{◌≡◌, ◌<◌, ◌^◌, List, subst, sym, arith}
use Rattle.std.specs.List.{AllByRecursion}
use Rattle.mq_base.proofs.lemmas.Each.{Each-weaker}
use Rattle.mq_crew.specs.Crew.{AreGroups, total_size}
use Rattle.mq_arrivals.specs.Merges.{IsComing, IsReadyOrigin}
use Rattle.mq_arrivals.specs.declared.merges.Coming.{Coming}
use Rattle.mq_arrivals.proofs.Comings.{coming_piece, coming_size, comings-few}
use Rattle.mq_arrivals.proofs.merges.comings_of.Goals as goal

pub parts-requires-clause-fit : goal.parts-requires-clause-fit
parts-requires-clause-fit g c κs inside =
    let s = c.args.arriving.now in
    subst (AllByRecursion (λ (z : Coming). IsReadyOrigin z.origin)) (sym c.as_slice.ensures) (Each-weaker (IsComing s c.loop-port.port) _ (λ z h. h.origin) c.loop-port.comings c.loop-port.invariant.each)

pub parts-requires-clause-few : goal.parts-requires-clause-few
parts-requires-clause-few g c κs inside =
    let s = c.args.arriving.now in
    let len = c.loop-port.invariant.len in
    let few = c.requires.nodes in
    subst (λ (l : List Coming). total_size coming_size l < 2 ^ 32) (sym c.as_slice.ensures) (comings-few s c.loop-port.port c.loop-port.comings (omega arith) c.loop-port.invariant.each)

pub returns-clause-each : goal.returns-clause-each
returns-clause-each g c =
    let s = c.args.arriving.now in
    let ended : c.loop-port.port ≡ 8 = omega arith in
    subst (λ p. AllByRecursion (IsComing s p) c.loop-port.comings) ended c.loop-port.invariant.each

pub all_further-requires-clause-groups : goal.all_further-requires-clause-groups
all_further-requires-clause-groups g c = subst (λ (l : List Coming). AreGroups coming_size coming_piece l c.in-Ok.groups) c.as_slice.ensures c.in-Ok.ensures
