-- Counts of nodes, in a list, from their visits.
use Rattle.std.specs.Prelude.{◌≡◌, ◌+◌, ◌-◌, ◌*◌, ◌/◌, ℕ, Bool, List, cond, length, min, Some, slice_get}
use Rattle.mq_crew.specs.Crew.{AreAll}
use Rattle.mq_counts.specs.Seen.{AreSeen, visits_in}
use Rattle.mq_counts.specs.declared.totals.NodeVisits.{NodeVisits}
use Rattle.mq_stats.specs.Blocks.{IsBlock, IsBlockOf}
use Rattle.mq_stats.specs.declared.blocks.BlockCount.{BlockCount}

-- The number of pieces of this size in `count` visits. The last piece may be smaller.
abbrev pub pieces_in : ℕ → ℕ → ℕ
pieces_in size count = (count + (size - 1)) / size

-- where the piece at an index begins
abbrev pub start_of : ℕ → ℕ → ℕ → ℕ
start_of size count b = min count (b * size)

-- visits to a node
abbrev pub IsVisited : NodeVisits → Type 0
IsVisited node = AreSeen node.rows.now node.kind.now node.visits

-- the number of their pieces, of 16,384 visits each
abbrev pub pieces_of : NodeVisits → ℕ
pieces_of node = pieces_in 16384 (length (visits_in node.visits).job)

-- the number of ticks up to which waits are counted with the totals: if percentiles are asked for, the number of
-- visits in a piece
abbrev pub counted_to : Bool → ℕ
counted_to tails = cond tails 16384 0

-- the counts of the visits of a piece
abbrev pub IsPieceCount : NodeVisits → ℕ → BlockCount → Type 0
IsPieceCount node b block =
    let count = length (visits_in node.visits).job in
    IsBlock node.rows.now node.kind.now (visits_in node.visits) node.last (counted_to node.tails) (start_of 16384 count b) (start_of 16384 count (b + 1)) block

-- the counts of all visits
abbrev pub IsSumOf : NodeVisits → BlockCount → Type 0
IsSumOf node sum = IsBlockOf node.rows.now node.kind.now (visits_in node.visits) node.last (counted_to node.tails) sum

-- the counts of the node at an index
abbrev pub IsSumIn : List NodeVisits → ℕ → BlockCount → Type 0
IsSumIn nodes v sum = (node : NodeVisits) → slice_get nodes v ≡ Some node → IsSumOf node sum

-- the counts of each node
abbrev pub AreSumsOf : List NodeVisits → List BlockCount → Type 0
AreSumsOf nodes sums = AreAll (IsSumIn nodes) (length nodes) sums
