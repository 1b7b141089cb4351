use Rattle.std.proofs.Common.{List, ◌<◌, ◌^◌, length, subst, sym}
use Rattle.mq_crew.specs.Crew.{AreGroups, total_size}
use Rattle.mq_counts.proofs.CountedTails.{waits-few}
use Rattle.mq_counts.specs.TailPieces.{IsPieceCounts, counted_pieces}
use Rattle.mq_counts.specs.declared.tail_pieces.NodeWaits.{NodeWaits}
use Rattle.mq_counts.proofs.tail_pieces.counted_tails.Goals as goal

pub parts-requires-clause-few : goal.parts-requires-clause-few
parts-requires-clause-few g c κs within =
    subst (λ (all : List NodeWaits). total_size counted_pieces all < 2 ^ 32) (sym c.as_slice.ensures)
    (waits-few c.args.known.now.nodes.now (length c.args.known.now.nodes.now) c.in_ok-all.all c.in_ok-all.ensures c.requires.few)

pub counted_of-requires-clause-waits : goal.counted_of-requires-clause-waits
counted_of-requires-clause-waits g c = c.in_ok-all.ensures

pub counted_of-requires-clause-groups : goal.counted_of-requires-clause-groups
counted_of-requires-clause-groups g c = subst (λ (all : List NodeWaits). AreGroups counted_pieces IsPieceCounts all c.in_ok-groups.groups) c.as_slice.ensures c.in_ok-groups.ensures
