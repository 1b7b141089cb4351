-- What a sound network gives: its limits, outputs that are read at most once, and inputs that are outputs.
use Rattle.std.proofs.Common.{◌≡◌, ℕ, zero, suc, Bool, true, false, List, [], ◌∷◌, ◌++◌, length, Some, sym, refl, ap, ◌∙◌, subst, eq-eqb}
use Rattle.std.proofs.lemmas.Bool.{and_parts}
use Rattle.std.proofs.lemmas.List.Folds.{list_any-append}
use Rattle.std.specs.Prelude.{◌&&◌, ◌||◌, ◌==◌, ◌^◌, nat_le, not, map, slice_get, IsTrue}
use Rattle.std.specs.List.{flat_map, list_all, list_any}
use Rattle.std.specs.Str.{bytes_eq}
use Rattle.mq_core.specs.Names.{is_name}
use Rattle.mq_core.specs.Ranges.{is_within}
use Rattle.mq_core.specs.Sound.{is_sound, is_sound_node, are_distinct, same_input, mentions_from, columns_of_kind, version_of}
use Rattle.mq_core.specs.Wiring.{inputs_of, is_source_kind}
use Rattle.mq_core.proofs.Networks.Wired.{IsReadOnce}
use Rattle.mq_core.specs.declared.model.Input.{Input}
use Rattle.mq_core.specs.declared.model.Network.{Network}
use Rattle.mq_core.specs.declared.model.Node.{Node}
use Rattle.mq_base.proofs.lemmas.Lists.{some_inj}

abbrev pub pair_of : Input → ℕ × ℕ
pair_of i = (i.node, i.out)

-- the inputs of all nodes, one after another
abbrev all_inputs : List Node → List Input
all_inputs nodes = flat_map (λ (node : Node). node.inputs) nodes

-- one of these inputs is this output
abbrev reads : List Input → ℕ → ℕ → Bool
reads is u out = list_any (λ (i : Input). (u == i.node) && (out == i.out)) is

-- an output that a port reads is among the inputs
reads-at : (is : List Input) (u out q : ℕ) → slice_get (map pair_of is) q ≡ Some (u, out) → reads is u out ≡ true
reads-at [] u out q h = absurd cc
reads-at (i ∷ is) u out zero h =
    let e = some_inj (pair_of i) (u, out) h in
    rw (eq-eqb u i.node (sym (ap (λ (x : ℕ × ℕ). x.0) e)), eq-eqb out i.out (sym (ap (λ (x : ℕ × ℕ). x.1) e))) refl
reads-at (i ∷ is) u out (suc q) h = go ((u == i.node) && (out == i.out)) (reads-at is u out q h)
  where
    go : (b : Bool) → reads is u out ≡ true → (b || reads is u out) ≡ true
    go true e = refl
    go false e = e

or-left : (a b : Bool) → a ≡ true → (a || b) ≡ true
or-left true b h = refl
or-left false b h = absurd cc

or-right : (a b : Bool) → b ≡ true → (a || b) ≡ true
or-right true b h = refl
or-right false b h = h

-- an output that a node reads is among the inputs of all
reads-somewhere : (nodes : List Node) (v q u out : ℕ) → slice_get (inputs_of nodes v) q ≡ Some (u, out) → reads (all_inputs nodes) u out ≡ true
reads-somewhere [] v q u out h = absurd cc
reads-somewhere (node ∷ nodes) zero q u out h =
    list_any-append (λ (i : Input). (u == i.node) && (out == i.out)) node.inputs (all_inputs nodes)
    ∙ or-left (reads node.inputs u out) (reads (all_inputs nodes) u out) (reads-at node.inputs u out q h)
reads-somewhere (node ∷ nodes) (suc v) q u out h =
    list_any-append (λ (i : Input). (u == i.node) && (out == i.out)) node.inputs (all_inputs nodes)
    ∙ or-right (reads node.inputs u out) (reads (all_inputs nodes) u out) (reads-somewhere nodes v q u out h)

not-both : (b : Bool) → not b ≡ true → b ≡ true → ⊥
not-both true h k = absurd cc
not-both false h k = absurd cc

-- of distinct inputs none reads what a later one reads
distinct-apart : (is js : List Input) (u out q : ℕ) → are_distinct same_input (is ++ js) ≡ true → slice_get (map pair_of is) q ≡ Some (u, out) → reads js u out ≡ true → ⊥
distinct-apart [] js u out q d h k = absurd cc
distinct-apart (i ∷ is) js u out zero d h k =
    let e = some_inj (pair_of i) (u, out) h in
    let no = (and_parts (not (list_any (same_input i) (is ++ js))) (are_distinct same_input (is ++ js)) d).0 in
    not-both (reads (is ++ js) u out) (subst (λ (x : ℕ × ℕ). not (reads (is ++ js) x.0 x.1) ≡ true) e no)
    (list_any-append (λ (j : Input). (u == j.node) && (out == j.out)) is js ∙ or-right (reads is u out) (reads js u out) k)
distinct-apart (i ∷ is) js u out (suc q) d h k =
    distinct-apart is js u out q (and_parts (not (list_any (same_input i) (is ++ js))) (are_distinct same_input (is ++ js)) d).1 h k

-- of distinct inputs those of the nodes behind the first are distinct
distinct-behind : (is js : List Input) → are_distinct same_input (is ++ js) ≡ true → are_distinct same_input js ≡ true
distinct-behind [] js d = d
distinct-behind (i ∷ is) js d = distinct-behind is js (and_parts (not (list_any (same_input i) (is ++ js))) (are_distinct same_input (is ++ js)) d).1

-- distinct inputs that read one output stand at one index
distinct-index : (is js : List Input) (u out q r : ℕ) → are_distinct same_input (is ++ js) ≡ true → slice_get (map pair_of is) q ≡ Some (u, out) → slice_get (map pair_of is) r ≡ Some (u, out) → q ≡ r
distinct-index [] js u out q r d h k = absurd cc
distinct-index (i ∷ is) js u out zero zero d h k = refl
distinct-index (i ∷ is) js u out zero (suc r) d h k =
    absurd (distinct-apart (i ∷ []) (is ++ js) u out 0 d h (list_any-append (λ (j : Input). (u == j.node) && (out == j.out)) is js ∙ or-left (reads is u out) (reads js u out) (reads-at is u out r k)))
distinct-index (i ∷ is) js u out (suc q) zero d h k =
    absurd (distinct-apart (i ∷ []) (is ++ js) u out 0 d k (list_any-append (λ (j : Input). (u == j.node) && (out == j.out)) is js ∙ or-left (reads is u out) (reads js u out) (reads-at is u out q h)))
distinct-index (i ∷ is) js u out (suc q) (suc r) d h k =
    ap suc (distinct-index is js u out q r (and_parts (not (list_any (same_input i) (is ++ js))) (are_distinct same_input (is ++ js)) d).1 h k)

distinct-read_once : (nodes : List Node) → are_distinct same_input (all_inputs nodes) ≡ true → IsReadOnce nodes
distinct-read_once [] d u out v q w r h k = absurd cc
distinct-read_once (node ∷ nodes) d u out zero q zero r h k = (refl, distinct-index node.inputs (all_inputs nodes) u out q r d h k)
distinct-read_once (node ∷ nodes) d u out zero q (suc w) r h k = absurd (distinct-apart node.inputs (all_inputs nodes) u out q d h (reads-somewhere nodes w r u out k))
distinct-read_once (node ∷ nodes) d u out (suc v) q zero r h k = absurd (distinct-apart node.inputs (all_inputs nodes) u out r d k (reads-somewhere nodes v q u out h))
distinct-read_once (node ∷ nodes) d u out (suc v) q (suc w) r h k =
    let both = distinct-read_once nodes (distinct-behind node.inputs (all_inputs nodes) d) u out v q w r h k in
    (ap suc both.0, both.1)

-- the parts of a sound network
pub record Parts (net : Network) : Type 0 where
  pub kinds : list_all (λ (node : Node). nat_le (version_of node.kind) net.version) net.nodes ≡ true
  pub few : nat_le (length net.nodes) 64 ≡ true
  pub early : nat_le net.bound (2 ^ 60) ≡ true
  pub each : list_all (is_sound_node (length net.columns) net.nodes) net.nodes ≡ true
  pub distinct : are_distinct same_input (all_inputs net.nodes) ≡ true

pub parts : (net : Network) → IsTrue (is_sound net) → Parts net
parts net sound =
    let a = and_parts _ (mentions_from 0 (length net.columns) (flat_map (λ (node : Node). columns_of_kind node.kind) net.nodes)) sound in
    let b = and_parts _ (are_distinct same_input (all_inputs net.nodes)) a.0 in
    let c = and_parts _ (list_all (is_sound_node (length net.columns) net.nodes) net.nodes) b.0 in
    let d = and_parts _ (are_distinct bytes_eq net.columns) c.0 in
    let e = and_parts _ (list_all is_name net.columns) d.0 in
    let f = and_parts _ (are_distinct bytes_eq (map (λ (node : Node). node.name) net.nodes)) e.0 in
    let g = and_parts _ (list_any (λ (node : Node). is_source_kind node.kind) net.nodes) f.0 in
    let h = and_parts _ (nat_le net.bound (2 ^ 60)) g.0 in
    let i = and_parts _ (nat_le (length net.columns) 16) h.0 in
    let j = and_parts _ (is_within 1 64 (length net.nodes)) i.0 in
    record {
      kinds = (and_parts (is_within 1 2 net.version) _ j.0).1;
      few = (and_parts (nat_le 1 (length net.nodes)) (nat_le (length net.nodes) 64) j.1).1;
      early = h.1;
      each = c.1;
      distinct = b.1;
    }

-- in a sound network no output is read twice
pub sound-read_once : (net : Network) → IsTrue (is_sound net) → IsReadOnce net.nodes
sound-read_once net sound = distinct-read_once net.nodes (parts net sound).distinct

-- what holds of each node holds of this one
node-at : (columns : ℕ) (all nodes : List Node) (v : ℕ) (node : Node) → list_all (is_sound_node columns all) nodes ≡ true → slice_get nodes v ≡ Some node → is_sound_node columns all node ≡ true
node-at columns all [] v node h e = absurd cc
node-at columns all (n ∷ nodes) zero node h e = subst (λ m. is_sound_node columns all m ≡ true) (some_inj n node e) (and_parts (is_sound_node columns all n) (list_all (is_sound_node columns all) nodes) h).0
node-at columns all (n ∷ nodes) (suc v) node h e = node-at columns all nodes v node (and_parts (is_sound_node columns all n) (list_all (is_sound_node columns all) nodes) h).1 e

-- each node of a sound network is sound
pub sound-node : (net : Network) → IsTrue (is_sound net) → (v : ℕ) (node : Node) → slice_get net.nodes v ≡ Some node → IsTrue (is_sound_node (length net.columns) net.nodes node)
sound-node net sound v node e = node-at (length net.columns) net.nodes net.nodes v node (parts net sound).each e
