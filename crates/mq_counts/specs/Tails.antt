-- The percentiles of the waits at nodes, in a list, from their visits.
use Rattle.std.specs.List.{AllByRecursion}
use Rattle.std.specs.Prelude.{◌≡◌, ◌<◌, ◌^◌, ℕ, IfSome, List, Option, length, Some, slice_get}
use Rattle.mq_crew.specs.Crew.{AreAll}
use Rattle.mq_counts.specs.Seen.{visits_in}
use Rattle.mq_counts.specs.Totals.{AreSumsOf, IsVisited}
use Rattle.mq_counts.specs.declared.tails.KnownNodes.{KnownNodes}
use Rattle.mq_counts.specs.declared.tails.NodesTails.{NodesTails}
use Rattle.mq_counts.specs.declared.totals.NodeVisits.{NodeVisits}
use Rattle.mq_stats.specs.Percentiles.{ArePercentiles, waits_at}
use Rattle.mq_stats.specs.declared.tails.Percentiles.{Percentiles}

-- these are the percentiles of the waits at a node
abbrev pub IsTailOf : NodeVisits → Percentiles → Type 0
IsTailOf node tail = ArePercentiles (waits_at node.rows.now node.kind.now (visits_in node.visits)) tail

-- the percentiles of the waits at the node at an index
abbrev pub IsTailIn : List NodeVisits → ℕ → Percentiles → Type 0
IsTailIn nodes v tail = (node : NodeVisits) → slice_get nodes v ≡ Some node → IsTailOf node tail

-- the percentiles of the waits at each node
abbrev pub AreTailsOf : List NodeVisits → List Percentiles → Type 0
AreTailsOf nodes tails = AreAll (IsTailIn nodes) (length nodes) tails

-- what was counted at the first `count` nodes: percentiles of their waits, or nothing
pub record AreCountedOf (nodes : List NodeVisits) (count : ℕ) (counted : List (Option Percentiles)) : Type 0 where
  pub len : length counted ≡ count
  pub each : (v : ℕ) (tail : Option Percentiles) → slice_get counted v ≡ Some tail → IfSome tail (IsTailIn nodes v)

-- visits to nodes, with the counts of these visits
pub record AreKnown (known : KnownNodes) : Type 0 where
  pub visited : AllByRecursion IsVisited known.nodes.now
  pub sums : AreSumsOf known.nodes.now known.sums.now

-- at most 65,535 nodes with their counts, and with the percentiles that were counted
pub record AreCounting (of : NodesTails) : Type 0 where
  pub few : length of.known.nodes.now < 2 ^ 16
  pub known : AreKnown of.known
  pub counted : AreCountedOf of.known.nodes.now (length of.known.nodes.now) of.counted.now
