-- The blocks of a node that stay are within its jobs.
use Rattle.std.proofs.Common.{◌*◌, ◌≤◌, ℕ, length, arith}
use Rattle.mq_alike.specs.Again.{AlikeIsFirst, Coming}
use Rattle.mq_core.specs.declared.model.Kind.{Kind}
use Rattle.mq_kept.specs.KeptNodes.{IsStayingNode}
use Rattle.mq_kept.specs.declared.stations.Stays.{Stays}

pub staying-within : AlikeIsFirst → (kind : Kind) (old new : Coming) (block : ℕ) (stays : Stays) → IsStayingNode kind old new block stays → stays.blocks * block ≤ length new.job
staying-within law kind old new block stays h =
    let few = (law kind old new).new_few in
    let same = h.1.same in
    omega arith
