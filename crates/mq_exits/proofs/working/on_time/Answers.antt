use Rattle.mq_exits.specs.declared.working.After.TheVariants.{Seen}
use Rattle.mq_exits.proofs.working.on_time.Goals as goal

pub returns-in-Ok : goal.returns-in-Ok
returns-in-Ok c = λ k. Seen (c.departures.ensures k) c.args.found (c.in-Ok.ensures k)
