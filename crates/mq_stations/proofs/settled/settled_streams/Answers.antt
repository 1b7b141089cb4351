use Rattle.std.proofs.Common.{subst, sym}
use Rattle.std.proofs.lemmas.Result.{IfOk-weaker}
use Rattle.mq_core.specs.declared.model.Kind.{Kind}
use Rattle.mq_stations.specs.Leaving.{AreSettled, AreStreams}
use Rattle.mq_stations.proofs.settled.settled_streams.Goals as goal

pub returns-in-Loss : goal.returns-in-Loss
returns-in-Loss c =
    IfOk-weaker c.loss_streams.result _ _
    (λ streams h rows stream s. subst (λ (k : Kind). AreStreams rows k c.args.arrivals.now streams) (sym c.in-Loss.is) (h rows c.in-Loss.places c.in-Loss.demand stream (subst (λ (k : Kind). AreSettled rows k c.args.arrivals.now c.args.settled.now) c.in-Loss.is s)))
    c.loss_streams.ensures

pub returns-in-Trunk : goal.returns-in-Trunk
returns-in-Trunk c =
    IfOk-weaker c.trunk_streams.result _ _
    (λ streams h rows stream s. subst (λ (k : Kind). AreStreams rows k c.args.arrivals.now streams) (sym c.in-Trunk.is) (h rows c.in-Trunk.servers c.in-Trunk.demand stream (subst (λ (k : Kind). AreSettled rows k c.args.arrivals.now c.args.settled.now) c.in-Trunk.is s)))
    c.trunk_streams.ensures
