use Rattle.std.proofs.Common.{arith}
use Rattle.std.proofs.lemmas.Result.{IfOk-weaker}
use Rattle.mq_kinds.proofs.Tiers.{sums-parted, tier-next, times-parted}
use Rattle.mq_kinds.proofs.forkjoin.forkjoin_next.Goals as goal

pub carries_of-carried-requires-clause-groups : goal.carries_of-carried-requires-clause-groups
carries_of-carried-requires-clause-groups c =
    let count = c.len-count.ensures in
    let groups = c.in_ok-groups-in-None.ensures in
    sums-parted c.args.load.now.arrivals.now.time c.args.work.now c.args.made c.requires.made c.in_ok-groups-in-None.groups c.in-None.is (let same = c.args.work.now.passage.servers.ok.0 in let len = groups.len in omega arith) (λ i d l. groups.each i d (omega arith))

pub joined-departs-requires-clause-groups : goal.joined-departs-requires-clause-groups
joined-departs-requires-clause-groups c =
    let count = c.len-count.ensures in
    let groups = c.in_ok-groups-in-Some.ensures in
    times-parted c.args.load.now.arrivals.now.time c.args.work.now c.args.made c.requires.made _ c.in_ok-groups-in-Some.groups c.in-Some.is (let same = c.args.work.now.passage.servers.ok.0 in let len = groups.len in omega arith) (λ i d l. groups.each i d (omega arith))

pub returns-in_ok-departs-in-Some : goal.returns-in_ok-departs-in-Some
returns-in_ok-departs-in-Some c =
    let load = c.args.load.now in
    IfOk-weaker c.tier_passed.result _ _ (λ end tier. tier-next load.rows.now load.kind.now load.arrivals.now c.args.work.now _ end c.requires.fit tier) c.tier_passed.ensures
