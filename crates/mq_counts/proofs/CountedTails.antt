-- The counts of waits, node by node and piece by piece.
use Rattle.std.proofs.Common.{◌≡◌, ℕ, ◌+◌, ◌*◌, ◌^◌, ◌<◌, ◌≤◌, ◌++◌, Bool, true, false, cond, List, [], ◌∷◌, Some, None, Option, length, length-append, refl, sym, subst, ap, ◌∙◌, arith}
use Rattle.std.specs.Prelude.{slice_get, ◌==◌, IfSome}
use Rattle.std.proofs.lemmas.Bool.Decides.{nat_tests}
use Rattle.std.specs.List.{AllByRecursion as Each}
use Rattle.mq_base.proofs.lemmas.Each.{Each-append}
use Rattle.mq_base.proofs.lemmas.Between.{length-between}
use Rattle.mq_base.proofs.lemmas.Lists.{some_inj}
use Rattle.mq_crew.specs.Crew.{AreAll, total_size}
use Rattle.mq_counts.proofs.Lists.{among-all, pushed-at}
use Rattle.mq_counts.proofs.Pieces.{few-pieces, pieces-all}
use Rattle.mq_counts.specs.Seen.{visits_in}
use Rattle.mq_counts.specs.Tails.{AreCountedOf, IsTailIn}
use Rattle.mq_counts.specs.TailPieces.{AreNodeWaits, AreWaitsIn, IsPieceCounts, IsWaited, counted_pieces, waits_in_piece}
use Rattle.mq_counts.specs.Totals.{IsSumIn, pieces_in, start_of}
use Rattle.mq_counts.specs.declared.tail_pieces.NodeWaits.{NodeWaits}
use Rattle.mq_counts.specs.declared.totals.NodeVisits.{NodeVisits}
use Rattle.mq_stats.specs.Numbers.{visits_between}
use Rattle.mq_stats.specs.Percentiles.{ArePercentiles, waits_at}
use Rattle.mq_stats.specs.WaitCounts.{AreWaitCounts, WaitsJoin}
use Rattle.mq_stats.specs.declared.blocks.BlockCount.{BlockCount}
use Rattle.mq_stats.specs.declared.tails.Percentiles.{Percentiles}
use Rattle.mq_stats.specs.declared.wait_counts.WaitCounts.{WaitCounts}

-- Pieces. The one at an index is among all.
pub counts-at : (node : NodeWaits) (group : List (Option WaitCounts)) (b : ℕ) (counts : Option WaitCounts) → AreAll (IsPieceCounts node) (counted_pieces node) group → slice_get group b ≡ Some counts → IsPieceCounts node b counts
counts-at node group b counts all here = among-all (IsPieceCounts node) (counted_pieces node) group b counts all here

-- the counts of the waits of a piece, where there are some
pub counts-there : (node : NodeWaits) (group : List (Option WaitCounts)) (b : ℕ) (counts : WaitCounts) → AreAll (IsPieceCounts node) (counted_pieces node) group → slice_get group b ≡ Some (Some counts) → AreWaitCounts (waits_in_piece node b) counts
counts-there node group b counts all here = (counts-at node group b (Some counts) all here).waits

-- the counts of the waits before a piece
abbrev pub AreWaitCountsBefore : NodeWaits → ℕ → WaitCounts → Type 0
AreWaitCountsBefore node b counts = AreWaitCounts (waits_at node.rows.now node.kind.now (visits_between 0 (start_of node.size (length (visits_in node.visits).job) b) (visits_in node.visits))) counts

-- no wait is before the first
pub counts-none : WaitsJoin → (node : NodeWaits) (sum : WaitCounts) → AreWaitCounts [] sum → AreWaitCountsBefore node 0 sum
counts-none law node sum h =
    let none : 0 ≡ start_of node.size (length (visits_in node.visits).job) 0 = omega arith in
    subst (λ n. AreWaitCounts (waits_at node.rows.now node.kind.now (visits_between 0 n (visits_in node.visits))) sum) none h

pub counts-more : WaitsJoin → (node : NodeWaits) (b : ℕ) (sum piece sum' : WaitCounts) → IsWaited node → AreWaitCountsBefore node b sum → AreWaitCounts (waits_in_piece node b) piece →
    ((waits more : List ℕ) → AreWaitCounts waits sum → AreWaitCounts more piece → AreWaitCounts (waits ++ more) sum') → AreWaitCountsBefore node (b + 1) sum'
counts-more law node b sum piece sum' waited before its added =
    let count = length (visits_in node.visits).job in
    let first : 0 ≤ start_of node.size count b = omega arith in
    let rises : start_of node.size count b ≤ start_of node.size count (b + 1) = omega arith in
    let within : start_of node.size count (b + 1) ≤ count = omega arith in
    subst (λ (waits : List ℕ). AreWaitCounts waits sum')
    (law.join node.rows.now node.kind.now (visits_in node.visits) waited.visits.visits 0 (start_of node.size count b) (start_of node.size count (b + 1)) first rises within) (added _ _ before its)

-- together they are no more than came
pub counts-few : WaitsJoin → (node : NodeWaits) (b : ℕ) (sum piece : WaitCounts) → IsWaited node → AreWaitCountsBefore node b sum → AreWaitCounts (waits_in_piece node b) piece → sum.many + piece.many ≤ 1048576
counts-few law node b sum piece waited before its =
    let jobs = (visits_in node.visits).job in
    let count = length jobs in
    let few = waited.visits.visits.few in
    let rises : start_of node.size count b ≤ start_of node.size count (b + 1) = omega arith in
    let within : start_of node.size count (b + 1) ≤ count = omega arith in
    let low : length (waits_at node.rows.now node.kind.now (visits_between 0 (start_of node.size count b) (visits_in node.visits))) ≤ length (visits_between 0 (start_of node.size count b) (visits_in node.visits)).job = law.few node.rows.now node.kind.now (visits_between 0 (start_of node.size count b) (visits_in node.visits)) in
    let high : length (waits_in_piece node b) ≤ length (visits_between (start_of node.size count b) (start_of node.size count (b + 1)) (visits_in node.visits)).job = law.few node.rows.now node.kind.now (visits_between (start_of node.size count b) (start_of node.size count (b + 1)) (visits_in node.visits)) in
    let came = length-between jobs 0 (start_of node.size count b) (omega arith) (omega arith) in
    let more = length-between jobs (start_of node.size count b) (start_of node.size count (b + 1)) rises within in
    let first = before.many in
    let second = its.many in
    omega arith

-- the pieces are all visits, where waits are counted
some-pieces : (most pieces : ℕ) → 0 < most → cond {A = ℕ} (most == 0) 0 pieces ≡ pieces
some-pieces most pieces l = grind (arith, nat_tests)

pub counts-all : WaitsJoin → (node : NodeWaits) (b : ℕ) (sum : WaitCounts) → IsWaited node → 0 < node.most → b ≡ counted_pieces node → AreWaitCountsBefore node b sum → AreWaitCounts (waits_at node.rows.now node.kind.now (visits_in node.visits)) sum
counts-all law node b sum waited some e before =
    let count = length (visits_in node.visits).job in
    let end : start_of node.size count b ≡ count = ap (start_of node.size count) (e ∙ some-pieces node.most (pieces_in node.size count) some) ∙ pieces-all node.size count (let least = waited.least in omega arith) in
    subst (λ v. AreWaitCounts (waits_at node.rows.now node.kind.now v) sum) (ap (λ n. visits_between 0 n (visits_in node.visits)) end ∙ law.whole node.rows.now node.kind.now (visits_in node.visits) waited.visits.visits) before

-- Nodes. Few visits make few pieces.
at-most : (b : Bool) (n : ℕ) → n ≤ 128 → cond b 0 n ≤ 128
at-most true n l = omega arith
at-most false n l = l

pieces-few : (all : List NodeWaits) → Each IsWaited all → total_size counted_pieces all ≤ length all * 128
pieces-few [] h = omega arith
pieces-few (node ∷ all) h =
    let few = h.0.visits.visits.few in
    let rest = pieces-few all h.1 in
    let own : pieces_in node.size (length (visits_in node.visits).job) ≤ 128 = few-pieces node.size (length (visits_in node.visits).job) h.0.least h.0.size few in
    let one : counted_pieces node ≤ 128 = at-most (node.most == 0) (pieces_in node.size (length (visits_in node.visits).job)) own in
    omega arith

pub waits-few : (nodes : List NodeVisits) (count : ℕ) (all : List NodeWaits) → AreNodeWaits nodes count all → count < 2 ^ 16 → total_size counted_pieces all < 2 ^ 32
waits-few nodes count all h few = let len = h.len in let most = pieces-few all h.waited in omega arith

-- those at the node at an index
pub waits-of : (nodes : List NodeVisits) (v : ℕ) (node : NodeVisits) (its : NodeWaits) → slice_get nodes v ≡ Some node →
    waits_at its.rows.now its.kind.now (visits_in its.visits) ≡ waits_at node.rows.now node.kind.now (visits_in node.visits) → AreWaitsIn nodes v its
waits-of nodes v node its here e other there = e ∙ ap (λ (n : NodeVisits). waits_at n.rows.now n.kind.now (visits_in n.visits)) (some_inj node other (sym here ∙ there))

-- the visits to no node, and to all nodes
pub waits-none : (nodes : List NodeVisits) (all : List NodeWaits) → all ≡ [] → AreNodeWaits nodes 0 all
waits-none nodes all none = rw none (record { len = refl; waited = tt; each = λ v its here. absurd cc })

pub waits-all : (nodes : List NodeVisits) (count : ℕ) (all all' : List NodeWaits) → AreNodeWaits nodes count all → count ≡ length nodes → all' ≡ all → AreNodeWaits nodes (length nodes) all'
waits-all nodes count all all' so_far e same = rw same (subst (λ n. AreNodeWaits nodes n all) e so_far)

-- the visits to one node more
pub waits-more : (nodes : List NodeVisits) (v : ℕ) (all all' : List NodeWaits) (its : NodeWaits) → AreNodeWaits nodes v all → IsWaited its → AreWaitsIn nodes v its → all' ≡ all ++ its ∷ [] → AreNodeWaits nodes (v + 1) all'
waits-more nodes v all all' its so_far waited at grown =
    let one = length-append all (its ∷ []) in
    let len = so_far.len in
    let longer = ap length grown in
    record {
      len = omega arith;
      waited = subst (Each IsWaited) (sym grown) (Each-append IsWaited all (its ∷ []) so_far.waited (waited, tt));
      each = λ u x here. pushed-at (AreWaitsIn nodes) v all all' its so_far.len so_far.each at grown u x here;
    }

-- what was counted of a node
pub counted-at : (nodes : List NodeVisits) (v : ℕ) (its : NodeWaits) (tail : Option Percentiles) → AreWaitsIn nodes v its → IfSome tail (ArePercentiles (waits_at its.rows.now its.kind.now (visits_in its.visits))) → IfSome tail (IsTailIn nodes v)
counted-at nodes v its None at h = tt
counted-at nodes v its (Some tail) at h = λ node there. subst (λ (waits : List ℕ). ArePercentiles waits tail) (at node there) h

-- no node, and all nodes
pub counted-none : (nodes : List NodeVisits) (counted : List (Option Percentiles)) → counted ≡ [] → AreCountedOf nodes 0 counted
counted-none nodes counted none = rw none (record { len = refl; each = λ v tail here. absurd cc })

pub counted-all : (nodes : List NodeVisits) (count : ℕ) (counted : List (Option Percentiles)) → AreCountedOf nodes count counted → count ≡ length nodes → AreCountedOf nodes (length nodes) counted
counted-all nodes count counted so_far e = subst (λ n. AreCountedOf nodes n counted) e so_far

-- one node more
pub counted-more : (nodes : List NodeVisits) (v : ℕ) (counted counted' : List (Option Percentiles)) (tail : Option Percentiles) → AreCountedOf nodes v counted → IfSome tail (IsTailIn nodes v) → counted' ≡ counted ++ tail ∷ [] → AreCountedOf nodes (v + 1) counted'
counted-more nodes v counted counted' tail so_far at grown =
    let len = so_far.len in
    let one = length-append counted (tail ∷ []) in
    let longer = ap length grown in
    record {
      len = omega arith;
      each = λ u x here. pushed-at (λ w (t : Option Percentiles). IfSome t (IsTailIn nodes w)) v counted counted' tail so_far.len so_far.each at grown u x here;
    }

-- the counts that were made with the totals of the node at an index are those of its waits
pub sum-at : (nodes : List NodeVisits) (v : ℕ) (its : NodeWaits) (sum : BlockCount) (node : NodeVisits) → slice_get nodes v ≡ Some node → AreWaitsIn nodes v its → IsSumIn nodes v sum → IfSome sum.waits (AreWaitCounts (waits_at its.rows.now its.kind.now (visits_in its.visits)))
sum-at nodes v its sum node there at are = subst (λ (waits : List ℕ). IfSome sum.waits (AreWaitCounts waits)) (sym (at node there)) (are node there).waits
