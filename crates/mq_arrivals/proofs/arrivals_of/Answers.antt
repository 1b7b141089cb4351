use Rattle.std.proofs.Common.{◌<◌, ◌^◌, ◌∙◌, List, subst, sym, arith}
use Rattle.std.specs.List.{AllByRecursion}
use Rattle.std.proofs.lemmas.Result.{IfOk-weaker}
use Rattle.mq_base.proofs.lemmas.Each.{Each-weaker}
use Rattle.mq_crew.specs.Crew.{AreGroups, total_size}
use Rattle.mq_arrivals.specs.Arrivals.{HasArrived}
use Rattle.mq_arrivals.specs.Merges.{IsComing, IsReadyOrigin}
use Rattle.mq_arrivals.specs.declared.merges.Coming.{Coming}
use Rattle.mq_arrivals.proofs.Comings.{HasComeBy, all-come, coming_piece, coming_size, comings-few}
use Rattle.mq_arrivals.proofs.arrivals_of.Goals as goal

pub parts-requires-clause-fit : goal.parts-requires-clause-fit
parts-requires-clause-fit g c κs inside =
    let s = c.args.arriving.now in
    subst (AllByRecursion (λ (z : Coming). IsReadyOrigin z.origin)) (sym c.as_slice.ensures) (Each-weaker (IsComing s 8) _ (λ z h. h.origin) c.in_ok-comings.comings c.in_ok-comings.ensures.each)

pub parts-requires-clause-few : goal.parts-requires-clause-few
parts-requires-clause-few g c κs inside =
    let s = c.args.arriving.now in
    let len = c.in_ok-comings.ensures.len in
    let few = c.requires.nodes in
    subst (λ (l : List Coming). total_size coming_size l < 2 ^ 32) (sym c.as_slice.ensures) (comings-few s 8 c.in_ok-comings.comings (omega arith) c.in_ok-comings.ensures.each)

pub all_merged-requires-clause-groups : goal.all_merged-requires-clause-groups
all_merged-requires-clause-groups g c = subst (λ (l : List Coming). AreGroups coming_size coming_piece l c.in-Ok.groups) c.as_slice.ensures c.in-Ok.ensures

pub all_merged-requires-clause-comings : goal.all_merged-requires-clause-comings
all_merged-requires-clause-comings g c = Each-weaker (IsComing c.args.arriving.now 8) _ (λ z h. h.origin) c.in_ok-comings.comings c.in_ok-comings.ensures.each

pub returns-in-Ok-clause-len : goal.returns-in-Ok-clause-len
returns-in-Ok-clause-len g c = IfOk-weaker c.all_merged.result _ _ (λ all e. e ∙ c.in_ok-comings.ensures.len) c.all_merged.ensures.len

pub returns-in-Ok-clause-each : goal.returns-in-Ok-clause-each
returns-in-Ok-clause-each g c =
    let s = c.args.arriving.now in
    IfOk-weaker c.all_merged.result _ _
    (λ all come. Each-weaker (HasComeBy (s, 8)) (HasArrived s) (λ a h. all-come c.nodes_are_in_limits.ensures s a.number a.arrivals h) all (come s 8 c.in_ok-comings.ensures.each)) c.all_merged.ensures.come
