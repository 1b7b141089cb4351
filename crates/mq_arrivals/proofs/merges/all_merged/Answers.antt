use Rattle.std.proofs.Common.{List, ap, arith, length, subst, sym}
use Rattle.std.specs.List.{AllByRecursion}
use Rattle.mq_base.proofs.lemmas.Lists.{last-shorter}
use Rattle.mq_core.specs.declared.model.Stream.{Stream}
use Rattle.mq_crew.specs.Crew.{AreGroups}
use Rattle.mq_crew.proofs.lemmas.Groups.{passing-last, passing-more}
use Rattle.mq_merge.specs.Borrowed.{stream_in}
use Rattle.mq_arrivals.specs.Merges.{IsComing, IsReadyOrigin}
use Rattle.mq_arrivals.specs.declared.merges.Coming.{Coming}
use Rattle.mq_arrivals.proofs.Comings.{HasComeBy, IsComingBy, coming_piece, coming_size, has-come}
use Rattle.mq_arrivals.proofs.merges.all_merged.Goals as goal

pub merged_of-requires-clause-ready : goal.merged_of-requires-clause-ready
merged_of-requires-clause-ready c = (passing-last coming_size coming_piece (λ coming. IsReadyOrigin coming.origin) (λ arrived. Unit {0}) IsComingBy HasComeBy _ _ _ _ _ _ _ _ c.loop-coming.invariant c.in-Some.ensures.items c.in-Some-pop.ensures.items).0

pub merged_of-requires-clause-group : goal.merged_of-requires-clause-group
merged_of-requires-clause-group c = (passing-last coming_size coming_piece (λ coming. IsReadyOrigin coming.origin) (λ arrived. Unit {0}) IsComingBy HasComeBy _ _ _ _ _ _ _ _ c.loop-coming.invariant c.in-Some.ensures.items c.in-Some-pop.ensures.items).1

pub loop-coming-init : goal.loop-coming-init
loop-coming-init c = record {
  fits = subst (AllByRecursion (λ (coming : Coming). IsReadyOrigin coming.origin)) (sym c.into_vec-comings.ensures) c.requires.comings;
  groups = subst (λ (z : List Coming × List (List Stream)). AreGroups coming_size coming_piece z.0 z.1) (λ k. (sym c.into_vec-comings.ensures k, sym c.into_vec-groups.ensures k)) c.requires.groups;
  len = let none = ap length c.new-all.ensures in omega arith;
  made = subst (AllByRecursion (λ arrived. Unit {0})) (sym c.new-all.ensures) tt;
  of = λ w h. (h, subst (AllByRecursion (HasComeBy w)) (sym c.new-all.ensures) tt);
}

pub loop-coming-preserved : goal.loop-coming-preserved
loop-coming-preserved c =
    passing-more coming_size coming_piece (λ coming. IsReadyOrigin coming.origin) (λ arrived. Unit {0}) IsComingBy HasComeBy _ _ _ _ _ _ _ _ _ _ c.loop-coming.invariant c.in-Some.ensures.items c.in-Some-pop.ensures.items tt
    (λ w h. has-come w.0 w.1 c.in-Some.coming (stream_in c.in-Ok.arrivals) h c.in-Ok.ensures) c.in_ok-push-in-Ok.ensures.ok

pub loop-coming-smaller : goal.loop-coming-smaller
loop-coming-smaller c = last-shorter _ _ _ c.in-Some.ensures.items

pub returns-clause-come : goal.returns-clause-come
returns-clause-come c s ports h = (c.loop-coming.invariant.of (s, ports) (subst (AllByRecursion (IsComing s ports)) (sym c.into_vec-comings.ensures) h)).1
