use Rattle.mq_crew.proofs.lemmas.Groups.{all-last}
use Rattle.mq_exits.specs.Keeping.{IsSettledPiece}
use Rattle.mq_exits.proofs.Telling.{fared-is, settled-fared, settled-streams, some-last, streams-are}
use Rattle.mq_exits.proofs.settling.after_settled.Goals as goal

pub last_content-streams-requires-clause-some : goal.last_content-streams-requires-clause-some
last_content-streams-requires-clause-some c =
    let load = c.args.load.now in
    some-last (IsSettledPiece load.plan.now load.rows.now load.number load.arrivals.now) 1 _ c.requires

pub last_content-streams-requires-clause-form : goal.last_content-streams-requires-clause-form
last_content-streams-requires-clause-form c front last e =
    let load = c.args.load.now in
    let is = IsSettledPiece load.plan.now load.rows.now load.number load.arrivals.now in
    settled-streams load.plan.now load.rows.now load.number load.arrivals.now last (all-last is 1 _ front last e c.requires).0

pub last_content-faring-requires-clause-some : goal.last_content-faring-requires-clause-some
last_content-faring-requires-clause-some c =
    let load = c.args.load.now in
    let is = IsSettledPiece load.plan.now load.rows.now load.number load.arrivals.now in
    some-last is 0 _ (all-last is 1 _ _ _ c.last_content-streams.ensures.1 c.requires).1

pub last_content-faring-requires-clause-form : goal.last_content-faring-requires-clause-form
last_content-faring-requires-clause-form c front last e =
    let load = c.args.load.now in
    let is = IsSettledPiece load.plan.now load.rows.now load.number load.arrivals.now in
    settled-fared load.plan.now load.rows.now load.number load.arrivals.now last (all-last is 0 _ front last e (all-last is 1 _ _ _ c.last_content-streams.ensures.1 c.requires).1).0

pub returns : goal.returns
returns c node there =
    let load = c.args.load.now in
    let is = IsSettledPiece load.plan.now load.rows.now load.number load.arrivals.now in
    let streams = all-last is 1 _ _ _ c.last_content-streams.ensures.1 c.requires in
    let fared = all-last is 0 _ _ _ c.last_content-faring.ensures.1 streams.1 in
    c.after_faring.ensures load.plan.now.net load.rows.now load.number node.kind load.arrivals.now
    (fared-is load.plan.now load.rows.now load.number load.arrivals.now 0 c.last_content-faring.ensures.0 c.last_content-faring.result fared.0 c.last_content-faring.ensures.2 node there)
    (streams-are load.plan.now load.rows.now load.number load.arrivals.now 1 c.last_content-streams.ensures.0 c.last_content-streams.result streams.0 c.last_content-streams.ensures.2 node there)
