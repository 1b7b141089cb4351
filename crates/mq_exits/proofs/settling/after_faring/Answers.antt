use Rattle.std.proofs.Common.{subst}
use Rattle.mq_exits.specs.Afters.{IsFaring}
use Rattle.mq_exits.proofs.settling.after_faring.Goals as goal

pub returns-in-OnTime : goal.returns-in-OnTime
returns-in-OnTime c net rows v kind arrivals h s =
    let on_time = subst (IsFaring net rows v kind arrivals) c.in-OnTime.is h in
    (record { fates_are = on_time.0; streams_are = s; none = on_time.1 }, on_time.2)
