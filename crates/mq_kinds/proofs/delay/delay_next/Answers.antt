use Rattle.std.proofs.Common.{◌≡◌, ◌∙◌, refl, subst, sym}
use Rattle.mq_core.specs.Sequences.{stream_in_order}
use Rattle.mq_core.specs.Streams.{sorted}
use Rattle.mq_core.specs.declared.model.Kind.{Kind}
use Rattle.mq_stations.specs.Leaving.{AreDepartures}
use Rattle.mq_kinds.specs.Pieces.{times_in}
use Rattle.mq_kinds.proofs.Wholes.{only-there}
use Rattle.mq_kinds.proofs.delay.delay_next.Goals as goal

pub only_content-requires : goal.only_content-requires
only_content-requires g c = c.requires.made.len

pub delay_left-requires-clause-overtake : goal.delay_left-requires-clause-overtake
delay_left-requires-clause-overtake g c _ _ = λ stream. subst (λ (k : Kind). stream_in_order k stream ≡ sorted stream) (sym c.requires.fit.is) refl

pub delay_left-requires-clause-departs : goal.delay_left-requires-clause-departs
delay_left-requires-clause-departs g c _ _ =
    let load = c.args.load.now in
    only-there times_in (AreDepartures load.rows.now load.kind.now load.arrivals.now) c.args.made _ c.requires.made (λ d. c.only_content.ensures d ∙ c.in-Some.is)

pub returns-in-None : goal.returns-in-None
returns-in-None g c =
    let load = c.args.load.now in
    absurd (only-there times_in (AreDepartures load.rows.now load.kind.now load.arrivals.now) c.args.made _ c.requires.made (λ d. c.only_content.ensures d ∙ c.in-None.is))
