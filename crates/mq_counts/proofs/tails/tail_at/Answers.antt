use Rattle.mq_counts.proofs.Lists.{each-has}
use Rattle.mq_counts.specs.Totals.{IsVisited}
use Rattle.mq_counts.proofs.tails.tail_at.Goals as goal

pub tail_seen-requires : goal.tail_seen-requires
tail_seen-requires c = each-has IsVisited c.args.known.now.nodes.now c.args.node c.get-its.result.now c.requires.known.visited c.get-its.ensures
