use Rattle.std.proofs.Common.{map}
use Rattle.mq_core.specs.Handling.{demand_of_job}
use Rattle.mq_core.specs.declared.model.Kind.TheVariants.{ForkJoin}
use Rattle.mq_stations.proofs.lemmas.StageFacts.{demands-asked, demands-told, loads-sound}
use Rattle.mq_kinds.proofs.ForkJoined.{branches-are, forkjoin-served, narrow-branches}
use Rattle.mq_kinds.proofs.Loads.{in-turn}
use Rattle.mq_kinds.proofs.Tiers.{load-here}
use Rattle.mq_kinds.proofs.forkjoin.forkjoin_whole.Goals as goal

pub all_asked_of-asked_of-requires : goal.all_asked_of-asked_of-requires
all_asked_of-asked_of-requires c =
    let load = load-here _ _ _ _ c.requires.kind c.requires.load in
    demands-asked c.args.load.now.rows.now _ _ c.args.load.now.arrivals.now.job c.in_ok-asked.ensures (demands-told c.args.load.now.rows.now _ c.args.load.now.arrivals.now.job load.told)

pub branch_servers-requires : goal.branch_servers-requires
branch_servers-requires c = let load = load-here _ _ _ _ c.requires.kind c.requires.load in narrow-branches load.columns c.args.branches.now load.sound

pub fork_departures-requires-clause-load : goal.fork_departures-requires-clause-load
fork_departures-requires-clause-load c =
    let load = load-here _ _ _ _ c.requires.kind c.requires.load in
    loads-sound c.args.load.now.rows.now (ForkJoin c.args.branches.now) _ _ c.args.load.now.arrivals.now _ load c.in_ok-asked.ensures (demands-told c.args.load.now.rows.now _ c.args.load.now.arrivals.now.job load.told) c.in_ok-demands.ensures

pub fork_departures-requires-clause-branches : goal.fork_departures-requires-clause-branches
fork_departures-requires-clause-branches c =
    let load = load-here _ _ _ _ c.requires.kind c.requires.load in
    branches-are load.columns c.args.branches.now _ _ (λ demand. map (demand_of_job c.args.load.now.rows.now demand) c.args.load.now.arrivals.now.job) _ load.sound c.in_ok-asked.ensures c.in-Ok.ensures c.in_ok-demands.ensures

pub returns : goal.returns
returns c =
    let load = c.args.load.now in
    in-turn load.rows.now load.kind.now (ForkJoin c.args.branches.now) load.arrivals.now c.in_ok-departs.departs c.requires.kind
    (forkjoin-served load.rows.now c.args.branches.now load.arrivals.now _ _ _ c.in_ok-departs.departs c.in_ok-asked.ensures c.in_ok-demands.ensures c.in-Ok.ensures c.in_ok-departs.ensures)
