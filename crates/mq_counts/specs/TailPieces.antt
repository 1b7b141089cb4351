-- The waits at nodes, counted in pieces of their visits.
use Rattle.std.specs.List.{AllByRecursion}
use Rattle.std.specs.Prelude.{◌≡◌, ◌+◌, ◌≤◌, ◌↔◌, ◌==◌, ℕ, IfSome, IsSome, List, Option, cond, length, Some, slice_get}
use Rattle.mq_core.specs.declared.model.Visits.{Visits}
use Rattle.mq_counts.specs.Seen.{AreSeen, visits_in}
use Rattle.mq_counts.specs.Totals.{pieces_in, start_of}
use Rattle.mq_counts.specs.declared.tail_pieces.NodeWaits.{NodeWaits}
use Rattle.mq_counts.specs.declared.totals.NodeVisits.{NodeVisits}
use Rattle.mq_stats.specs.Numbers.{visits_between}
use Rattle.mq_stats.specs.Percentiles.{longest_wait, waits_at}
use Rattle.mq_stats.specs.WaitCounts.{AreWaitCounts}
use Rattle.mq_stats.specs.declared.wait_counts.WaitCounts.{WaitCounts}

-- visits to a node, the number of ticks up to which a table counts, and the number of visits in a piece, which is at least that
-- number
pub record IsWaited (node : NodeWaits) : Type 0 where
  pub visits : AreSeen node.rows.now node.kind.now node.visits
  pub most : node.most ≤ 1048576
  pub least : 16384 ≤ node.size
  pub size : node.size ≤ 1048576
  pub whole : node.most ≤ node.size

-- the number of pieces: none if no wait is counted
abbrev pub counted_pieces : NodeWaits → ℕ
counted_pieces node = cond (node.most == 0) 0 (pieces_in node.size (length (visits_in node.visits).job))

-- the visits of a piece
abbrev pub visits_in_piece : NodeWaits → ℕ → Visits
visits_in_piece node b =
    let count = length (visits_in node.visits).job in
    visits_between (start_of node.size count b) (start_of node.size count (b + 1)) (visits_in node.visits)

-- the waits of a piece
abbrev pub waits_in_piece : NodeWaits → ℕ → List ℕ
waits_in_piece node b = waits_at node.rows.now node.kind.now (visits_in_piece node b)

-- the counts of these waits, which are there if and only if no wait is longer than can be counted
pub record IsPieceCounts (node : NodeWaits) (b : ℕ) (counts : Option WaitCounts) : Type 0 where
  pub told : IsSome counts ↔ (longest_wait node.rows.now node.kind.now (visits_in_piece node b) ≤ node.most)
  pub waits : IfSome counts (AreWaitCounts (waits_in_piece node b))

-- the waits of these visits are those at a node
abbrev pub AreWaitsIn : List NodeVisits → ℕ → NodeWaits → Type 0
AreWaitsIn nodes v its =
    (node : NodeVisits) → slice_get nodes v ≡ Some node →
    waits_at its.rows.now its.kind.now (visits_in its.visits) ≡ waits_at node.rows.now node.kind.now (visits_in node.visits)

-- the visits to the first `count` nodes
pub record AreNodeWaits (nodes : List NodeVisits) (count : ℕ) (all : List NodeWaits) : Type 0 where
  pub len : length all ≡ count
  pub waited : AllByRecursion IsWaited all
  pub each : (v : ℕ) (its : NodeWaits) → slice_get all v ≡ Some its → AreWaitsIn nodes v its
