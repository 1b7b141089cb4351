-- Which nodes are ready, by what they read.
use Rattle.std.proofs.Common.{◌≡◌, ℕ, zero, suc, ◌+◌, ◌<◌, Bool, true, false, cond, List, [], ◌∷◌, length, get_or, Option, Some, None, sym, refl, ap, ◌∙◌, subst, arith, add-zero}
use Rattle.std.specs.Prelude.{◌&&◌, not, map, slice_get}
use Rattle.std.specs.Option.{option_map}
use Rattle.std.specs.List.{All, list_all}
use Rattle.std.proofs.lemmas.Option.{get_or_from_slice_get, slice_get-map, slice_get_within}
use Rattle.mq_core.specs.declared.model.Input.{Input}
use Rattle.mq_core.specs.declared.model.Node.{Node}
use Rattle.mq_core.specs.Wiring.{has, first_ready, outputs_read}
use Rattle.mq_graph.specs.Cycle.{Reads}
use Rattle.mq_graph.specs.Rank.{AreWired}

abbrev pair_of : Input → ℕ × ℕ
pair_of i = (i.node, i.out)

abbrev node_of : Option (ℕ × ℕ) → ℕ
node_of None = 0
node_of (Some i) = i.0

abbrev are_ranked : List ℕ → List Input → Bool
are_ranked ranked is = list_all (λ (i : Input). has ranked i.node) is

all_ranked : (ranked : List ℕ) (is : List Input) (port out u : ℕ) → are_ranked ranked is ≡ true → slice_get (map pair_of is) port ≡ Some (u, out) → has ranked u ≡ true
all_ranked ranked [] port out u all h = absurd cc
all_ranked ranked (i ∷ is) port out u all h = go port (has ranked i.node) refl all h (λ p. all_ranked ranked is p out u)
  where
    go : (port : ℕ) (b : Bool) → has ranked i.node ≡ b → (b && are_ranked ranked is) ≡ true → slice_get (map pair_of (i ∷ is)) port ≡ Some (u, out) → ((p : ℕ) → are_ranked ranked is ≡ true → slice_get (map pair_of is) p ≡ Some (u, out) → has ranked u ≡ true) → has ranked u ≡ true
    go port false e k at ih = absurd cc
    go zero true e k at ih = subst (λ n. has ranked n ≡ true) (ap node_of at) e
    go (suc p) true e k at ih = ih p k at

one_unranked : (ranked : List ℕ) (is : List Input) → are_ranked ranked is ≡ false → (u : ℕ) × ((port : ℕ) × (out : ℕ) × (slice_get (map pair_of is) port ≡ Some (u, out))) × (has ranked u ≡ false)
one_unranked ranked [] h = absurd cc
one_unranked ranked (i ∷ is) h = go (has ranked i.node) refl h (one_unranked ranked is)
  where
    go : (b : Bool) → has ranked i.node ≡ b → (b && are_ranked ranked is) ≡ false → (are_ranked ranked is ≡ false → (u : ℕ) × ((port : ℕ) × (out : ℕ) × (slice_get (map pair_of is) port ≡ Some (u, out))) × (has ranked u ≡ false)) → (u : ℕ) × ((port : ℕ) × (out : ℕ) × (slice_get (map pair_of (i ∷ is)) port ≡ Some (u, out))) × (has ranked u ≡ false)
    go false e k ih = (i.node, (0, i.out, refl), e)
    go true e k ih = let r = ih k in (r.0, (suc r.1.0, r.1.1, r.1.2), r.2)

-- a node that is ready isn't ranked, and all that it reads is
pub record IsReady (ranked : List ℕ) (nodes : List Node) (n k : ℕ) : Type 0 where
  pub new : has ranked n ≡ false
  pub within : k < length nodes
  pub reads : (u : ℕ) → Reads nodes k u → has ranked u ≡ true

ready_from : (ranked : List ℕ) (w : ℕ) (nodes : List Node) (n : ℕ) → first_ready ranked w nodes ≡ Some n → (k : ℕ) × (n ≡ w + k) × IsReady ranked nodes n k
unfolding first_ready
ready_from ranked w [] n h = absurd cc
ready_from ranked w (node ∷ nodes) n h = go (has ranked w) (are_ranked ranked node.inputs) refl refl h (ready_from ranked (suc w) nodes n)
  where
    later : (first_ready ranked (suc w) nodes ≡ Some n → (k : ℕ) × (n ≡ suc w + k) × IsReady ranked nodes n k) → first_ready ranked (suc w) nodes ≡ Some n → (k : ℕ) × (n ≡ w + k) × IsReady ranked (node ∷ nodes) n k
    later ih k =
        let r = ih k in
        let l = r.2.within in
        (suc r.0, (let e : n ≡ suc w + r.0 = r.1 in omega arith), record { new = r.2.new; within = omega arith; reads = λ u reads. r.2.reads u reads })

    go : (a b : Bool) → has ranked w ≡ a → are_ranked ranked node.inputs ≡ b → cond (not a && b) (Some w) (first_ready ranked (suc w) nodes) ≡ Some n → (first_ready ranked (suc w) nodes ≡ Some n → (k : ℕ) × (n ≡ suc w + k) × IsReady ranked nodes n k) → (k : ℕ) × (n ≡ w + k) × IsReady ranked (node ∷ nodes) n k
    go true b e f k ih = later ih k
    go false false e f k ih = later ih k
    go false true e f k ih =
        let same : w ≡ n = cc in
        (0, sym same ∙ sym (add-zero w), record { new = subst (λ m. has ranked m ≡ false) same e; within = omega arith; reads = λ u reads. all_ranked ranked node.inputs reads.0 reads.1 u f reads.2 })

pub ready : (ranked : List ℕ) (nodes : List Node) (n : ℕ) → first_ready ranked 0 nodes ≡ Some n → IsReady ranked nodes n n
ready ranked nodes n h =
    let r = ready_from ranked 0 nodes n h in
    let e : r.0 ≡ n = let k : n ≡ 0 + r.0 = r.1 in omega arith in
    subst (IsReady ranked nodes n) e r.2

-- where none is ready, each node that isn't ranked reads one that isn't
blocked_from : (ranked : List ℕ) (w : ℕ) (nodes : List Node) (k : ℕ) → first_ready ranked w nodes ≡ None → k < length nodes → has ranked (w + k) ≡ false → (u : ℕ) × Reads nodes k u × (has ranked u ≡ false)
unfolding first_ready
blocked_from ranked w [] k h low left = absurd (omega arith)
blocked_from ranked w (node ∷ nodes) zero h low left = go (has ranked w) (are_ranked ranked node.inputs) (subst (λ n. has ranked n ≡ false) (add-zero w) left) refl refl h
  where
    go : (a b : Bool) → has ranked w ≡ false → has ranked w ≡ a → are_ranked ranked node.inputs ≡ b → cond (not a && b) (Some w) (first_ready ranked (suc w) nodes) ≡ None → (u : ℕ) × Reads (node ∷ nodes) zero u × (has ranked u ≡ false)
    go true b l e f k = absurd cc
    go false true l e f k = absurd cc
    go false false l e f k = one_unranked ranked node.inputs f
blocked_from ranked w (node ∷ nodes) (suc k) h low left =
    let e : w + suc k ≡ suc w + k = omega arith in
    go (not (has ranked w) && are_ranked ranked node.inputs) h (λ none. blocked_from ranked (suc w) nodes k none (omega arith) (subst (λ n. has ranked n ≡ false) e left))
  where
    go : (b : Bool) → cond b (Some w) (first_ready ranked (suc w) nodes) ≡ None → (first_ready ranked (suc w) nodes ≡ None → (u : ℕ) × Reads nodes k u × (has ranked u ≡ false)) → (u : ℕ) × Reads (node ∷ nodes) (suc k) u × (has ranked u ≡ false)
    go true n ih = absurd cc
    go false n ih = ih n

pub blocked : (ranked : List ℕ) (nodes : List Node) (k : ℕ) → first_ready ranked 0 nodes ≡ None → k < length nodes → has ranked k ≡ false → (u : ℕ) × Reads nodes k u × (has ranked u ≡ false)
blocked ranked nodes k h low left =
    let e : k ≡ 0 + k = omega arith in
    blocked_from ranked 0 nodes k h low (subst (λ n. has ranked n ≡ false) e left)

-- who reads is a node
pub reader-within : (nodes : List Node) (v u : ℕ) → Reads nodes v u → v < length nodes
reader-within [] v u reads = let h = reads.2 in absurd cc
reader-within (node ∷ nodes) zero u reads = omega arith
reader-within (node ∷ nodes) (suc v) u reads = let l = reader-within nodes v u reads in omega arith

-- what is read is a node
pub read-within : (nodes : List Node) → AreWired nodes → (v u : ℕ) → Reads nodes v u → u < length nodes
read-within nodes wired v u reads = go (slice_get nodes v) refl reads
  where
    go : (o : Option Node) → slice_get nodes v ≡ o → (port : ℕ) × (out : ℕ) × (slice_get (outputs_read o) port ≡ Some (u, out)) → u < length nodes
    go None e r = let h = r.2 in absurd cc
    go (Some node) e r =
        let low : v < length nodes = slice_get_within nodes v node e in
        let at : get_or nodes v node ≡ node = get_or_from_slice_get nodes v node node e in
        let all : All (λ (i : Input). i.node < length nodes) node.inputs = subst (λ (n : Node). All (λ (i : Input). i.node < length nodes) n.inputs) at (wired v node low) in
        among node.inputs (slice_get node.inputs r.0) refl r.2 all
      where
        among : (is : List Input) (i : Option Input) → slice_get is r.0 ≡ i → slice_get (map pair_of is) r.0 ≡ Some (u, r.1) → All (λ (i : Input). i.node < length nodes) is → u < length nodes
        among is None e h all = let k : slice_get (map pair_of is) r.0 ≡ None = slice_get-map pair_of is r.0 ∙ ap (option_map pair_of) e in absurd cc
        among is (Some i) e h all =
            let k : slice_get (map pair_of is) r.0 ≡ Some (pair_of i) = slice_get-map pair_of is r.0 ∙ ap (option_map pair_of) e in
            let same : i.node ≡ u = ap node_of (sym k ∙ h) in
            let at : get_or is r.0 i ≡ i = get_or_from_slice_get is r.0 i i e in
            subst (λ n. n < length nodes) same (subst (λ (j : Input). j.node < length nodes) at (all r.0 i (slice_get_within is r.0 i e)))
