use Rattle.std.proofs.Common.{◌≤◌, ◌++◌, ◌∷◌, [], ap, ◌∙◌, length, arith}
use Rattle.mq_base.proofs.lemmas.Lists.{map-all}
use Rattle.mq_stations.proofs.lemmas.Lists.{map-more}
use Rattle.mq_kinds.proofs.forkjoin.branch_servers.Goals as goal

pub loop-at-preserved : goal.loop-at-preserved
loop-at-preserved c =
    map-more length c.args.branches.now c.loop-at.at c.get.result.now _ _ c.get.ensures
    (c.in_ok-push.ensures.ok ∙ ap (λ n. c.loop-at.servers ++ n ∷ []) c.len.ensures) c.loop-at.invariant

pub returns : goal.returns
returns c =
    let ended : length c.args.branches.now ≤ c.loop-at.at = omega arith in
    map-all length c.args.branches.now c.loop-at.at _ ended c.loop-at.invariant
