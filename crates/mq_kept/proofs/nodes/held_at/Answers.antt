use Rattle.std.proofs.Common.{length, ap, sym, subst, arith}
use Rattle.std.specs.List.{AllByRecursion}
use Rattle.mq_arrivals.specs.Arrivals.{HasArrived}
use Rattle.mq_engine.proofs.Telling.{serves}
use Rattle.mq_kept.proofs.Ended.{can-one, held-one}
use Rattle.mq_kept.proofs.nodes.held_at.Goals as goal

pub arrivals_of-requires-after_bounds : goal.arrivals_of-requires-after_bounds
arrivals_of-requires-after_bounds g c κs within =
    let s = c.args.arriving.now in
    let one = ap length c.requires.one in
    serves s c.requires.wave.read c.requires.wave.early (can-one s c.args.number c.requires.one c.requires.can) (omega arith) c.requires.wave.block

pub returns-clause-ready : goal.returns-clause-ready
returns-clause-ready g c =
    let s = c.args.arriving.now in
    let here = held-one c.core_laws.ensures s c.args.number _ _ c.in-Some.arrived c.requires.wave c.requires.one c.requires.can (subst (AllByRecursion (HasArrived s)) (sym c.into_vec-all.ensures) c.in_ok-all.ensures.each) c.in-Some.ensures.items in
    (c.requires.wave.read, here.0, c.requires.wave.block)

pub returns-clause-number : goal.returns-clause-number
returns-clause-number g c =
    let s = c.args.arriving.now in
    (held-one c.core_laws.ensures s c.args.number _ _ c.in-Some.arrived c.requires.wave c.requires.one c.requires.can (subst (AllByRecursion (HasArrived s)) (sym c.into_vec-all.ensures) c.in_ok-all.ensures.each) c.in-Some.ensures.items).1
