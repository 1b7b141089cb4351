-- Nodes that each read only nodes before them hold no cycle, so the ranking has them all.
use Rattle.std.proofs.Common.{◌≡◌, ◌∙◌, refl, sym, subst, ap, ℕ, zero, suc, ◌+◌, ◌<◌, ◌≤◌, List, [], ◌∷◌, ◌++◌, length, Bool, true, Option, Some, None, arith}
use Rattle.std.specs.Prelude.{◌&&◌, IsSome, map, nat_lt, slice_get}
use Rattle.std.specs.List.{flat_map, list_all}
use Rattle.std.proofs.lemmas.Bool.{and_from, and_parts, ltb-true}
use Rattle.std.proofs.lemmas.List.Folds.{list_all-append}
use Rattle.std.proofs.lemmas.List.Sums.{AllPass-from_list_all}
use Rattle.mq_base.proofs.lemmas.Tests.{list_all_wider}
use Rattle.mq_core.specs.Wiring.{ranking}
use Rattle.mq_core.specs.declared.model.Input.{Input}
use Rattle.mq_core.specs.declared.model.Node.{Node}
use Rattle.mq_graph.specs.Cycle.{CyclesAreLeft, HasCycle, ReadThrough, Reads}
use Rattle.mq_graph.specs.Rank.{AreWired, HasAll, left_node}
use Rattle.mq_graph.proofs.Complete.{has_all}
use Rattle.mq_gen.proofs.Growing.{below_wider}

-- all that a node reads stands below this number
abbrev pub reads_below : ℕ → Node → Bool
reads_below v node = list_all (λ (i : Input). nat_lt i.node v) node.inputs

-- each of these nodes, the first of this number, reads only nodes before it
abbrev pub forward_from : ℕ → List Node → Bool
forward_from v [] = true
forward_from v (node ∷ nodes) = reads_below v node && forward_from (suc v) nodes

pub forward_on : (v : ℕ) (nodes : List Node) (node : Node) (n : ℕ) → n ≡ v + length nodes → forward_from v nodes ≡ true → reads_below n node ≡ true → forward_from v (nodes ++ node ∷ []) ≡ true
forward_on v [] node n is h k = let e : n ≡ v = omega arith in and_from _ _ (subst (λ m. reads_below m node ≡ true) e k) refl
forward_on v (other ∷ nodes) node n is h k = let both = and_parts _ _ h in and_from _ _ both.0 (forward_on (suc v) nodes node n (omega arith) both.1 k)

pub reads_wider : (v w : ℕ) → v ≤ w → (node : Node) → reads_below v node ≡ true → reads_below w node ≡ true
reads_wider v w wide node = list_all_wider (λ (i : Input). nat_lt i.node v) (λ (i : Input). nat_lt i.node w) node.inputs (λ i. below_wider v w wide i.node)

pub all_read_below : (v n : ℕ) (nodes : List Node) → v + length nodes ≤ n → forward_from v nodes ≡ true → list_all (reads_below n) nodes ≡ true
all_read_below v n [] wide h = refl
all_read_below v n (node ∷ nodes) wide h =
    let both = and_parts _ _ h in
    and_from _ _ (reads_wider v n (omega arith) node both.0) (all_read_below (suc v) n nodes (omega arith) both.1)

pub inputs_below : (n : ℕ) (nodes : List Node) → list_all (reads_below n) nodes ≡ true → list_all (λ (i : Input). nat_lt i.node n) (flat_map (λ (node : Node). node.inputs) nodes) ≡ true
inputs_below n [] h = refl
inputs_below n (node ∷ nodes) h =
    let both = and_parts _ _ h in
    list_all-append (λ (i : Input). nat_lt i.node n) node.inputs (flat_map (λ (other : Node). other.inputs) nodes) ∙ and_from _ _ both.0 (inputs_below n nodes both.1)

pub wired : (nodes : List Node) → forward_from 0 nodes ≡ true → AreWired nodes
wired nodes h v node low port input below =
    ltb-true _ _
    (AllPass-from_list_all (λ (i : Input). nat_lt i.node (length nodes)) _ (AllPass-from_list_all (reads_below (length nodes)) nodes (all_read_below 0 (length nodes) nodes (omega arith) h) v node low) port input below)

-- Who is read stands before who reads.
abbrev pair_of : Input → ℕ × ℕ
pair_of i = (i.node, i.out)

abbrev node_of : Option (ℕ × ℕ) → ℕ
node_of None = 0
node_of (Some read) = read.0

input_before : (v : ℕ) (inputs : List Input) → list_all (λ (i : Input). nat_lt i.node v) inputs ≡ true → (port u out : ℕ) → slice_get (map pair_of inputs) port ≡ Some (u, out) → u < v
input_before v [] h port u out at = absurd (cc)
input_before v (i ∷ inputs) h zero u out at = let e : i.node ≡ u = ap node_of at in let low = ltb-true i.node v (and_parts _ _ h).0 in omega arith
input_before v (i ∷ inputs) h (suc port) u out at = input_before v inputs (and_parts _ _ h).1 port u out at

read_before : (v : ℕ) (nodes : List Node) → forward_from v nodes ≡ true → (k u : ℕ) → Reads nodes k u → u < v + k
read_before v [] h k u (port, out, at) = absurd (cc)
read_before v (node ∷ nodes) h zero u (port, out, at) =
    let low : u < v = input_before v node.inputs (and_parts (reads_below v node) (forward_from (suc v) nodes) h).0 port u out at in
    omega arith
read_before v (node ∷ nodes) h (suc k) u reads =
    let low : u < suc v + k = read_before (suc v) nodes (and_parts (reads_below v node) (forward_from (suc v) nodes) h).1 k u reads in
    omega arith

through_before : (nodes : List Node) → forward_from 0 nodes ≡ true → (v : ℕ) (others : List ℕ) (u : ℕ) → ReadThrough nodes v others u → u < v
through_before nodes h v [] u reads = let low = read_before 0 nodes h v u reads in omega arith
through_before nodes h v (next ∷ others) u (reads, more) =
    let low = read_before 0 nodes h v next reads in
    let lower = through_before nodes h next others u more in
    omega arith

pub no_cycle : (nodes : List Node) → forward_from 0 nodes ≡ true → ¬ HasCycle nodes
no_cycle nodes h (first, others, through) = let low = through_before nodes h first others first through in omega arith

pub all_ranked : CyclesAreLeft → (nodes : List Node) → forward_from 0 nodes ≡ true → HasAll (ranking nodes) nodes
all_ranked cycles nodes h = go (left_node nodes) refl
  where
    go : (left : Option ℕ) → left_node nodes ≡ left → HasAll (ranking nodes) nodes
    go None e = has_all (ranking nodes) nodes e
    go (Some v) e = absurd (no_cycle nodes h ((cycles nodes (wired nodes h)).0 (subst IsSome (sym e) refl)))
