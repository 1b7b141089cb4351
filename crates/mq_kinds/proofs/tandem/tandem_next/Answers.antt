use Rattle.std.proofs.Common.{subst, sym, arith}
use Rattle.mq_crew.specs.Crew.{AreAll}
use Rattle.mq_kinds.specs.Pieces.{product_in, times_in}
use Rattle.mq_kinds.specs.Tandems.{AreTandemTimes, IsTandemSum}
use Rattle.mq_kinds.proofs.Forms.{contents-are}
use Rattle.mq_kinds.proofs.Stages.{are-products, are-times}
use Rattle.mq_kinds.proofs.tandem.tandem_next.Goals as goal

pub carries_of-carried-requires-clause-len : goal.carries_of-carried-requires-clause-len
carries_of-carried-requires-clause-len c =
    let arrivals = c.args.load.now.arrivals.now in
    let tandem = c.args.tandem.now in
    let blocks = tandem.blocks.blocks in
    (subst (AreAll (IsTandemSum arrivals tandem) blocks) (sym c.in_ok-sums-in-None.ensures)
    (contents-are product_in (IsTandemSum arrivals tandem) blocks c.args.made (are-products arrivals tandem blocks c.args.made c.requires.made c.in-None.is))).len

pub carries_of-carried-requires-clause-sums : goal.carries_of-carried-requires-clause-sums
carries_of-carried-requires-clause-sums c =
    let arrivals = c.args.load.now.arrivals.now in
    let tandem = c.args.tandem.now in
    let blocks = tandem.blocks.blocks in
    let all = subst (AreAll (IsTandemSum arrivals tandem) blocks) (sym c.in_ok-sums-in-None.ensures)
    (contents-are product_in (IsTandemSum arrivals tandem) blocks c.args.made (are-products arrivals tandem blocks c.args.made c.requires.made c.in-None.is)) in
    λ b d l. all.each b d (let len = all.len in omega arith)

pub joined-departs-requires-clause-len : goal.joined-departs-requires-clause-len
joined-departs-requires-clause-len c =
    let arrivals = c.args.load.now.arrivals.now in
    let tandem = c.args.tandem.now in
    let blocks = tandem.blocks.blocks in
    (subst (AreAll (AreTandemTimes arrivals tandem) blocks) (sym c.in_ok-times-in-Some.ensures)
    (contents-are times_in (AreTandemTimes arrivals tandem) blocks c.args.made (are-times arrivals tandem blocks c.args.made c.requires.made _ c.in-Some.is))).len

pub joined-departs-requires-clause-group : goal.joined-departs-requires-clause-group
joined-departs-requires-clause-group c =
    let arrivals = c.args.load.now.arrivals.now in
    let tandem = c.args.tandem.now in
    let blocks = tandem.blocks.blocks in
    let all = subst (AreAll (AreTandemTimes arrivals tandem) blocks) (sym c.in_ok-times-in-Some.ensures)
    (contents-are times_in (AreTandemTimes arrivals tandem) blocks c.args.made (are-times arrivals tandem blocks c.args.made c.requires.made _ c.in-Some.is)) in
    λ b d l. all.each b d (let len = all.len in omega arith)
