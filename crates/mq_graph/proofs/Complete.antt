-- An order that lacks none of the nodes has them all: for the proofs of mq_gen too.
use Rattle.std.proofs.Common.{◌≡◌, ℕ, zero, suc, ◌+◌, ◌<◌, ◌≤◌, eqb, eqb-true, Bool, true, false, cond, List, length, Some, None, refl, subst, arith}
use Rattle.std.proofs.lemmas.Bool.Decides.{nat_tests}
use Rattle.std.specs.Prelude.{not}
use Rattle.std.specs.List.{find, range_with_len}
use Rattle.mq_core.specs.declared.model.Node.{Node}
use Rattle.mq_core.specs.Wiring.{has}
use Rattle.mq_graph.specs.Rank.{first_outside, HasAll}

has_below : (order : List ℕ) (from count n : ℕ) → find (λ m. not (has order m)) (range_with_len from count) ≡ None → from ≤ n → n < from + count → has order n ≡ true
has_below order from zero n h low high = absurd (omega arith)
has_below order from (suc count) n h low high = go (has order from) (eqb from n) refl refl h (has_below order (from + 1) count n)
  where
    go : (b c : Bool) → has order from ≡ b → eqb from n ≡ c → cond (not b) (Some from) (find (λ m. not (has order m)) (range_with_len (from + 1) count)) ≡ None → (find (λ m. not (has order m)) (range_with_len (from + 1) count) ≡ None → from + 1 ≤ n → n < from + 1 + count → has order n ≡ true) → has order n ≡ true
    go false c e f k ih = absurd cc
    go true true e f k ih = subst (λ m. has order m ≡ true) (eqb-true from n f) e
    go true false e f k ih = let l : from + 1 ≤ n = grind (arith, nat_tests) in ih k l (omega arith)

pub has_all : (order : List ℕ) (nodes : List Node) → first_outside order (length nodes) ≡ None → HasAll order nodes
has_all order nodes h n l = has_below order 0 (length nodes) n h (omega arith) (omega arith)
