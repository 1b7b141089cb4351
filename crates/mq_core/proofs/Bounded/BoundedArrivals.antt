-- When jobs come to a node at the latest: from the rows of a source, or from the outputs that it reads.
use Rattle.std.proofs.Common.{◌≡◌, ℕ, suc, ◌≤◌, Bool, true, false, cond, eqb, ltb, List, [], ◌∷◌, ◌++◌, length, Some, refl, arith}
use Rattle.std.specs.Prelude.{slice_get}
use Rattle.std.specs.List.{AllByRecursion as Each, flat_map, zip}
use Rattle.mq_core.specs.Sequences.{rows_at}
use Rattle.mq_core.specs.Laws.{insert_by}
use Rattle.mq_core.specs.Streams.{by_first}
use Rattle.mq_core.specs.declared.model.Input.{Input}
use Rattle.mq_core.proofs.Bounded.BoundedStations.{AreBy}

-- none of these pairs has a later time
abbrev pub PairsBy : ℕ → List (ℕ × ℕ) → Type 0
PairsBy limit pairs = Each (λ (p : ℕ × ℕ). p.0 ≤ limit) pairs

pairs-append : (limit : ℕ) (xs ys : List (ℕ × ℕ)) → PairsBy limit xs → PairsBy limit ys → PairsBy limit (xs ++ ys)
pairs-append limit [] ys h k = k
pairs-append limit (x ∷ xs) ys h k = (h.0, pairs-append limit xs ys h.1 k)

pub zip-by : (limit : ℕ) (times jobs : List ℕ) → AreBy limit times → PairsBy limit (zip times jobs)
zip-by limit [] jobs h = tt
zip-by limit (time ∷ times) [] h = tt
zip-by limit (time ∷ times) (job ∷ jobs) h = (h.0, zip-by limit times jobs h.1)

pub from-zip : (limit : ℕ) (times jobs : List ℕ) → length jobs ≡ length times → PairsBy limit (zip times jobs) → AreBy limit times
from-zip limit [] jobs e h = tt
from-zip limit (time ∷ times) [] e h = absurd (omega arith)
from-zip limit (time ∷ times) (job ∷ jobs) e h = (h.0, from-zip limit times jobs (omega arith) h.1)

insert-by : (limit : ℕ) (p : ℕ × ℕ) (ps : List (ℕ × ℕ)) → p.0 ≤ limit → PairsBy limit ps → PairsBy limit (insert_by (λ (q : ℕ × ℕ). q.0) p ps)
insert-by limit p [] l h = (l, tt)
insert-by limit p (q ∷ qs) l h = go (ltb q.0 p.0) (insert-by limit p qs l h.1)
  where
    go : (b : Bool) → PairsBy limit (insert_by (λ (r : ℕ × ℕ). r.0) p qs) → PairsBy limit (cond b (q ∷ insert_by (λ (r : ℕ × ℕ). r.0) p qs) (p ∷ (q ∷ qs)))
    go true k = (h.0, k)
    go false k = (l, h)

pub order-by : (limit : ℕ) (ps : List (ℕ × ℕ)) → PairsBy limit ps → PairsBy limit (by_first ps)
order-by limit [] h = tt
order-by limit (p ∷ ps) h = insert-by limit p (by_first ps) h.0 (order-by limit ps h.1)

pub rows-by : (limit node job : ℕ) (sources times : List ℕ) → AreBy limit times → PairsBy limit (rows_at node job sources times)
rows-by limit node job [] times h = tt
rows-by limit node job (source ∷ sources) [] h = tt
rows-by limit node job (source ∷ sources) (time ∷ times) h = go (eqb source node) (rows-by limit node (suc job) sources times h.1)
  where
    go : (b : Bool) → PairsBy limit (rows_at node (suc job) sources times) → PairsBy limit (cond b ((time, job) ∷ rows_at node (suc job) sources times) (rows_at node (suc job) sources times))
    go true k = (h.0, k)
    go false k = k

-- what all ports read, where it holds of what each reads
pub reads-by : (limit : ℕ) (f : Input → List (ℕ × ℕ)) (inputs : List Input) → ((port : ℕ) (input : Input) → slice_get inputs port ≡ Some input → PairsBy limit (f input)) → PairsBy limit (flat_map f inputs)
reads-by limit f [] h = tt
reads-by limit f (input ∷ inputs) h =
    pairs-append limit (f input) (flat_map f inputs) (h 0 input refl) (reads-by limit f inputs (λ port i e. h (suc port) i e))
