use Rattle.mq_stations.specs.Leaving.{AreServed}
use Rattle.std.proofs.Common.{List, ℕ, refl, subst, sym}
use Rattle.mq_kinds.proofs.Loads.{in-turn}
use Rattle.mq_kinds.proofs.tandem.tandem_whole.Goals as goal

pub returns : goal.returns
returns c =
    let load = c.args.load.now in
    in-turn load.rows.now load.kind.now load.kind.now load.arrivals.now c.in_ok-departs.departs refl (subst (λ (departs : List ℕ). AreServed load.rows.now load.kind.now load.arrivals.now departs) (sym c.in_ok-departs.ensures) c.in_ok-tandem.ensures.fit.serves)
