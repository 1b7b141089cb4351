use Rattle.mq_base.proofs.lemmas.Each.{Each-weaker}
use Rattle.mq_arrivals.specs.Arrivals.{HasArrived}
use Rattle.mq_engine.specs.Sources.{IsSourceArrived}
use Rattle.mq_engine.proofs.Waves.{has-loaded}
use Rattle.mq_engine.proofs.sources.sent_by.Goals as goal

pub all_sent-requires-clause-arrived : goal.all_sent-requires-clause-arrived
all_sent-requires-clause-arrived g c =
    let s = c.args.arriving.now in
    Each-weaker (HasArrived s) (IsSourceArrived s) (λ a h. (has-loaded c.core_laws.ensures s a c.requires.arriving c.requires.early c.requires.can h, c.requires.sources a.number h.ready)) c.in_ok-arrived.arrived c.in_ok-arrived.ensures.each
