-- The ranking step by step: which node gets the next rank, and what an order lacks.
use Rattle.std.proofs.Common.{◌≡◌, ℕ, zero, suc, ◌+◌, ◌-◌, ◌<◌, ◌≤◌, Bool, true, false, cond, List, ◌++◌, length, get_or, drop, Option, Some, None, refl, subst, arith}
use Rattle.std.proofs.Math.Seq.{drop-cons}
use Rattle.std.proofs.Math.ListN.{drop_of_length-le}
use Rattle.std.specs.Prelude.{◌&&◌, not}
use Rattle.std.specs.Option.{option_to_list}
use Rattle.std.specs.List.{list_all, find, range_with_len}
use Rattle.mq_core.specs.declared.model.Input.{Input}
use Rattle.mq_core.specs.declared.model.Node.{Node}
use Rattle.mq_core.specs.Wiring.{has, first_ready, ranked_after, ranking}
use Rattle.mq_graph.specs.Rank.{first_outside, left_node}

abbrev is_ready : List ℕ → Node → Bool
is_ready ranked node = list_all (λ (i : Input). has ranked i.node) node.inputs

-- a node that isn't ranked and whose inputs are is the first that is ready
pub ready_here : (ranked : List ℕ) (nodes : List Node) (v : ℕ) (node : Node) → v < length nodes → get_or nodes v node ≡ node → not (has ranked v) ≡ true → is_ready ranked node ≡ true → first_ready ranked v (drop v nodes) ≡ Some v
unfolding first_ready
ready_here ranked nodes v node h at new ready = rw (drop-cons nodes v node h, at, new, ready) refl

-- any other is passed over
pub ready_later : (ranked : List ℕ) (nodes : List Node) (v : ℕ) (node : Node) → v < length nodes → get_or nodes v node ≡ node → (not (has ranked v) && is_ready ranked node) ≡ false → first_ready ranked v (drop v nodes) ≡ first_ready ranked (suc v) (drop (suc v) nodes)
unfolding first_ready
ready_later ranked nodes v node h at passes = rw (drop-cons nodes v node h, at, passes) refl

-- with no node left to look at none is ready
pub none_ready : (ranked : List ℕ) (nodes : List Node) (v : ℕ) → v ≡ length nodes → first_ready ranked v (drop v nodes) ≡ None
unfolding first_ready
none_ready ranked nodes v h = let l : length nodes ≤ v = omega arith in rw (drop_of_length-le nodes l) refl

-- one step of the ranking
pub next_step : (nodes : List Node) (ranked : List ℕ) (step : ℕ) (r : Option ℕ) → step < length nodes → first_ready ranked 0 nodes ≡ r → ranked_after (length nodes - step) nodes ranked ≡ ranking nodes → ranked_after (length nodes - (step + 1)) nodes (ranked ++ option_to_list r) ≡ ranking nodes
unfolding ranked_after
next_step nodes ranked step r h found so =
    let e : length nodes - step ≡ suc (length nodes - (step + 1)) = omega arith in
    let one : ranked_after (suc (length nodes - (step + 1))) nodes ranked ≡ ranking nodes = subst (λ n. ranked_after n nodes ranked ≡ ranking nodes) e so in
    subst (λ o. ranked_after (length nodes - (step + 1)) nodes (ranked ++ option_to_list o) ≡ ranking nodes) found one

-- after the last step
pub last_step : (nodes : List Node) (ranked : List ℕ) (step : ℕ) → length nodes ≤ step → ranked_after (length nodes - step) nodes ranked ≡ ranking nodes → ranked ≡ ranking nodes
unfolding ranked_after
last_step nodes ranked step h so =
    let e : length nodes - step ≡ 0 = omega arith in
    subst (λ n. ranked_after n nodes ranked ≡ ranking nodes) e so

-- what an order lacks when it is the ranking
pub left_is : (nodes : List Node) (order : List ℕ) (r : Option ℕ) → order ≡ ranking nodes → first_outside order (length nodes) ≡ r → left_node nodes ≡ r
left_is nodes order r so h = subst (λ o. first_outside o (length nodes) ≡ r) so h

-- what an order lacks is a node that isn't in it
lacking_from : (order : List ℕ) (from count n : ℕ) → find (λ m. not (has order m)) (range_with_len from count) ≡ Some n → (n < from + count) × (has order n ≡ false)
lacking_from order from zero n h = absurd cc
lacking_from order from (suc count) n h = go (has order from) refl h (lacking_from order (from + 1) count n)
  where
    go : (b : Bool) → has order from ≡ b → cond (not b) (Some from) (find (λ m. not (has order m)) (range_with_len (from + 1) count)) ≡ Some n → (find (λ m. not (has order m)) (range_with_len (from + 1) count) ≡ Some n → (n < from + 1 + count) × (has order n ≡ false)) → (n < from + suc count) × (has order n ≡ false)
    go false e k ih = let same : from ≡ n = cc in (omega arith, subst (λ m. has order m ≡ false) same e)
    go true e k ih = let r = ih k in (let l = r.0 in omega arith, r.1)

pub lacking : (order : List ℕ) (count n : ℕ) → first_outside order count ≡ Some n → (n < count) × (has order n ≡ false)
lacking order count n h = let r = lacking_from order 0 count n h in (let l = r.0 in omega arith, r.1)
