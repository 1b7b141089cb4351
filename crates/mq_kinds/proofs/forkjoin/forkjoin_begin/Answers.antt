use Rattle.std.proofs.Common.{refl}
use Rattle.mq_kinds.proofs.ForkJoined.{asked-by_branch}
use Rattle.mq_kinds.proofs.Tiers.{forkjoin-begins, load-here}
use Rattle.mq_kinds.proofs.forkjoin.forkjoin_begin.Goals as goal

pub branches_asked_of-requires : goal.branches_asked_of-requires
branches_asked_of-requires c = asked-by_branch c.args.load.now.rows.now c.args.branches.now c.args.load.now.arrivals.now (load-here _ _ _ _ c.requires.kind c.requires.load)

pub returns-clause-fit : goal.returns-clause-fit
returns-clause-fit c =
    forkjoin-begins c.args.load.now.rows.now c.args.load.now.kind.now c.args.branches.now c.args.load.now.arrivals.now _ _ c.requires.kind c.requires.load c.in_ok-demands.ensures c.into_vec.ensures c.new.ensures.items c.in-Ok.ensures refl c.blocks_of.ensures.few refl
