use Rattle.std.proofs.Common.{List, ◌<◌, ◌^◌, subst, sym}
use Rattle.mq_crew.specs.Crew.{total_size}
use Rattle.mq_counts.proofs.NodeTotals.{all-few}
use Rattle.mq_counts.specs.Totals.{pieces_of}
use Rattle.mq_counts.specs.declared.totals.NodeVisits.{NodeVisits}
use Rattle.mq_counts.proofs.totals.sums_by_node.Goals as goal

pub parts-requires-clause-few : goal.parts-requires-clause-few
parts-requires-clause-few g c κs within =
    subst (λ (all : List NodeVisits). total_size pieces_of all < 2 ^ 32) (sym c.as_slice.ensures) (all-few c.args.nodes.now c.requires.visited c.requires.few)
