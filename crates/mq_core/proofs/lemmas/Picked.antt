-- What is picked of a list.
use Rattle.std.proofs.Common.{ℕ, suc, ◌≤◌, Bool, true, false, cond, eqb, List, [], ◌∷◌, length, arith}
use Rattle.std.specs.List.{AllByRecursion as Each}
use Rattle.mq_core.specs.Streams.{picked}

-- it is among the items, and no more than they are
pub Each-picked : (P : ℕ → Type 0) (out : ℕ) (outs items : List ℕ) → Each P items → Each P (picked out outs items)
Each-picked P out [] items h = tt
Each-picked P out (o ∷ outs) [] h = tt
Each-picked P out (o ∷ outs) (item ∷ items) h = go (eqb o out) (Each-picked P out outs items h.1)
  where
    go : (b : Bool) → Each P (picked out outs items) → Each P (cond b (item ∷ picked out outs items) (picked out outs items))
    go true k = (h.0, k)
    go false k = k

pub picked-few : (out : ℕ) (outs items : List ℕ) → length (picked out outs items) ≤ length items
picked-few out [] items = omega arith
picked-few out (o ∷ outs) [] = omega arith
picked-few out (o ∷ outs) (item ∷ items) = go (eqb o out) (picked-few out outs items)
  where
    go : (b : Bool) → length (picked out outs items) ≤ length items → length (cond b (item ∷ picked out outs items) (picked out outs items)) ≤ suc (length items)
    go true h = omega arith
    go false h = omega arith
