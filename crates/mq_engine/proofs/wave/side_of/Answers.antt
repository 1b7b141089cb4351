use Rattle.std.proofs.Common.{length, ap, sym, subst, arith}
use Rattle.std.specs.Prelude.{Contains}
use Rattle.std.proofs.lemmas.Result.{IfOk-weaker}
use Rattle.mq_engine.specs.Waves.{IsApartOf, IsStationOf}
use Rattle.mq_engine.specs.Progress.{CanWorkAll}
use Rattle.mq_engine.proofs.Telling.{IfOk-both, can-all, each-contained, given-among, results-among, serves}
use Rattle.mq_engine.proofs.wave.side_of.Goals as goal

pub returns : goal.returns
returns g c =
    let s = c.args.arriving.now in
    let wave = c.in_ok-wave.wave in
    let sorted = c.in_ok-wave.ensures.sorted in
    let gathered = results-among s.plan.now s.rows.now c.deref.result.now s.ready.now c.in-Ok.gathered
    (λ v h. (each-contained (IsApartOf s) wave.apart.items sorted.apart v (subst (λ l. Contains l v) c.deref.ensures.value h)).0) c.in-Ok.ensures.known in
    let served = given-among c.args.keep s.plan.now s.rows.now c.deref-2.result.now s.ready.now c.in-Ok-given_by.served
    (λ v h. (each-contained (IsStationOf s) wave.stations.items sorted.stations v (subst (λ l. Contains l v) c.deref-2.ensures.value h)).0) c.in-Ok-given_by.ensures.known in
    let count = c.in_ok-wave.ensures.len in
    let apart = ap length c.deref.ensures.value in
    let of_gathered = c.in-Ok.ensures.len in
    let stations = ap length c.deref-2.ensures.value in
    let of_served = c.in-Ok-given_by.ensures.len in
    IfOk-weaker c.all_given.result _ _ (λ given h. record { len = (let many = h.0 in omega arith); known = h.1 c.args.keep s.plan.now s.rows.now s.ready.now sorted.crowded gathered served })
    (IfOk-both c.all_given.result _ _ c.all_given.ensures.len c.all_given.ensures.known)

pub given_by-requires-clause-can : goal.given_by-requires-clause-can
given_by-requires-clause-can g c κs inside =
    let s = c.args.arriving.now in
    subst (CanWorkAll s.plan.now s.rows.now s.outputs.now) (sym c.deref-2.ensures.value) (can-all s c.in_ok-wave.wave.stations.items c.in_ok-wave.ensures.sorted.stations)

pub given_by-requires-clause-arriving : goal.given_by-requires-clause-arriving
given_by-requires-clause-arriving g c κs inside =
    let s = c.args.arriving.now in
    let same = ap length c.deref-2.ensures.value in
    let len = c.in_ok-wave.ensures.len in
    let few = c.requires.few in
    serves (record { plan = s.plan; rows = s.rows; outputs = s.outputs; ready = c.deref-2.result; block = s.block }) c.requires.wave.read c.requires.wave.early
    (subst (CanWorkAll s.plan.now s.rows.now s.outputs.now) (sym c.deref-2.ensures.value) (can-all s c.in_ok-wave.wave.stations.items c.in_ok-wave.ensures.sorted.stations)) (omega arith) c.requires.wave.block

pub given_by-requires-clause-early : goal.given_by-requires-clause-early
given_by-requires-clause-early g c κs inside = c.requires.wave.early

pub apart_results-requires-clause-gathering : goal.apart_results-requires-clause-gathering
apart_results-requires-clause-gathering g c κs inside =
    let s = c.args.arriving.now in
    record {
      read = c.requires.wave.read;
      early = c.requires.wave.early;
      can = λ v h. (each-contained (IsApartOf s) c.in_ok-wave.wave.apart.items c.in_ok-wave.ensures.sorted.apart v (subst (λ l. Contains l v) c.deref.ensures.value h)).1;
    }

pub apart_results-requires-clause-few : goal.apart_results-requires-clause-few
apart_results-requires-clause-few g c κs inside =
    let same = ap length c.deref.ensures.value in
    let len = c.in_ok-wave.ensures.len in
    let few = c.requires.few in
    omega arith
