-- What is counted of nodes, node by node and piece by piece.
use Rattle.std.proofs.Common.{◌≡◌, ℕ, ◌+◌, ◌*◌, ◌^◌, ◌<◌, ◌≤◌, List, [], ◌∷◌, Some, length, subst, sym, ap, ◌∙◌, arith}
use Rattle.std.specs.Prelude.{slice_get}
use Rattle.std.specs.List.{AllByRecursion as Each}
use Rattle.mq_base.proofs.lemmas.Lists.{some_inj}
use Rattle.mq_crew.specs.Crew.{AreAll, total_size}
use Rattle.mq_counts.proofs.Lists.{among-all}
use Rattle.mq_counts.proofs.Pieces.{few-pieces, pieces-all}
use Rattle.mq_counts.specs.Seen.{visits_in}
use Rattle.mq_counts.specs.Totals.{IsPieceCount, IsSumIn, IsSumOf, IsVisited, counted_to, pieces_of, start_of}
use Rattle.mq_counts.specs.declared.totals.NodeVisits.{NodeVisits}
use Rattle.mq_stats.specs.Blocks.{AreNeighbours, IsBlock, IsBlockOf}
use Rattle.mq_stats.specs.Numbers.{visits_between}
use Rattle.mq_stats.specs.WaitCounts.{WaitsJoin}
use Rattle.mq_stats.specs.declared.blocks.BlockCount.{BlockCount}

-- Pieces. The one at an index is among all.
pub piece-at : (node : NodeVisits) (group : List BlockCount) (b : ℕ) (block : BlockCount) → AreAll (IsPieceCount node) (pieces_of node) group → slice_get group b ≡ Some block → IsPieceCount node b block
piece-at node group b block all here = among-all (IsPieceCount node) (pieces_of node) group b block all here

-- what is counted of the visits before a piece
abbrev pub AreBefore : NodeVisits → ℕ → BlockCount → Type 0
AreBefore node b sum = IsBlock node.rows.now node.kind.now (visits_in node.visits) node.last (counted_to node.tails) 0 (start_of 16384 (length (visits_in node.visits).job) b) sum

-- behind them comes the piece, before the next
pub neighbours : (node : NodeVisits) (b : ℕ) (sum piece : BlockCount) → IsVisited node → AreBefore node b sum → IsPieceCount node b piece → AreNeighbours sum piece
neighbours node b sum piece visited before its =
    let count = length (visits_in node.visits).job in
    record {
      rows = node.rows.now;
      kind = node.kind.now;
      visits = visits_in node.visits;
      span = node.last;
      most = counted_to node.tails;
      from = 0;
      middle = start_of 16384 count b;
      to = start_of 16384 count (b + 1);
      sound = visited.visits;
      order = omega arith;
      next = omega arith;
      within = omega arith;
      first = before;
      second = its;
    }

pub before-more : (node : NodeVisits) (b : ℕ) (sum piece sum' : BlockCount) → IsVisited node → AreBefore node b sum → IsPieceCount node b piece →
    ((blocks : AreNeighbours sum piece) → IsBlock blocks.rows blocks.kind blocks.visits blocks.span blocks.most blocks.from blocks.to sum') → AreBefore node (b + 1) sum'
unfolding neighbours
before-more node b sum piece sum' visited before its added = added (neighbours node b sum piece visited before its)

-- no visit stands before the first piece
pub before-none : (node : NodeVisits) (sum : BlockCount) → IsBlock node.rows.now node.kind.now (visits_in node.visits) node.last (counted_to node.tails) 0 0 sum → AreBefore node 0 sum
before-none node sum h =
    let none : 0 ≡ start_of 16384 (length (visits_in node.visits).job) 0 = omega arith in
    subst (λ n. IsBlock node.rows.now node.kind.now (visits_in node.visits) node.last (counted_to node.tails) 0 n sum) none h

-- the pieces are all visits
pub before-all : WaitsJoin → (node : NodeVisits) (b : ℕ) (sum : BlockCount) → IsVisited node → b ≡ pieces_of node → AreBefore node b sum → IsSumOf node sum
before-all law node b sum visited e before =
    let count = length (visits_in node.visits).job in
    let end : start_of 16384 count b ≡ count = ap (start_of 16384 count) e ∙ pieces-all 16384 count (omega arith) in
    subst (λ v. IsBlockOf node.rows.now node.kind.now v node.last (counted_to node.tails) sum) (ap (λ n. visits_between 0 n (visits_in node.visits)) end ∙ law.whole node.rows.now node.kind.now (visits_in node.visits) visited.visits) before

-- Nodes. Few visits make few pieces.
pieces-few : (all : List NodeVisits) → Each IsVisited all → total_size pieces_of all ≤ length all * 128
pieces-few [] h = omega arith
pieces-few (node ∷ all) h =
    let few = h.0.visits.few in
    let rest = pieces-few all h.1 in
    let one : pieces_of node ≤ 128 = few-pieces 16384 (length (visits_in node.visits).job) (omega arith) (omega arith) few in
    omega arith

pub all-few : (all : List NodeVisits) → Each IsVisited all → length all < 2 ^ 16 → total_size pieces_of all < 2 ^ 32
all-few all h few = let most = pieces-few all h in omega arith

-- that of the node at an index
pub sum-in : (nodes : List NodeVisits) (v : ℕ) (node : NodeVisits) (sum : BlockCount) → slice_get nodes v ≡ Some node → IsSumOf node sum → IsSumIn nodes v sum
sum-in nodes v node sum here are other there = subst (λ (n : NodeVisits). IsSumOf n sum) (some_inj node other (sym here ∙ there)) are
