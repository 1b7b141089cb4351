-- Departures by time: those of one time stand by position, and as many are gone.
use Rattle.std.proofs.Common.{◌≡◌, ℕ, suc, ◌<◌, ◌≤◌, Bool, true, false, cond, ltb, ltb-true, List, [], ◌∷◌, length, refl, sym, ap, ◌∙◌, arith}
use Rattle.std.specs.Prelude.{count_by}
use Rattle.std.specs.List.{AllByRecursion as Each}
use Rattle.std.proofs.lemmas.Bool.Decides.{nat_tests}
use Rattle.std.proofs.lemmas.List.Sums.{length-filter}
use Rattle.mq_base.proofs.lemmas.Each.{Each-weaker}
use Rattle.mq_core.proofs.lemmas.Orders.{Each-order, filter-order, in_order_of-length}
use Rattle.mq_core.specs.Streams.{by_first}
use Rattle.mq_core.specs.Laws.{in_order_of, insert_by}
use Rattle.mq_core.specs.declared.model.Fate.{Fate}
use Rattle.mq_core.specs.declared.model.Fate.TheVariants.{Departs, Held, Lost}
use Rattle.mq_stats.specs.Departures.{Ascends, departures_from}

abbrev Pairs : Type 0
Pairs = List (ℕ × ℕ)

-- as many pass a test in either order
pub as-many : {X : Type 0} (key : X → ℕ) (test : X → Bool) (xs : List X) → count_by test (in_order_of key xs) ≡ count_by test xs
as-many key test xs =
    sym (length-filter test (in_order_of key xs))
    ∙ (ap length (filter-order key test xs) ∙ (in_order_of-length key _ ∙ length-filter test xs))

-- by time, those of one time by position
abbrev IsBehind : ℕ × ℕ → ℕ × ℕ → Type 0
IsBehind p q = (p.0 ≤ q.0) × (p.0 ≡ q.0 → p.1 ≤ q.1)

behind-each : (p q : ℕ × ℕ) (rest : Pairs) → q.0 < p.0 → Each (IsBehind q) rest → Each (IsBehind q) (insert_by (λ (r : ℕ × ℕ). r.0) p rest)
behind-each p q [] l h = ((omega arith, λ e. absurd (omega arith)), tt)
behind-each p q (r ∷ rest) l h = go (ltb r.0 p.0) (behind-each p q rest l h.1)
  where
    go : (b : Bool) → Each (IsBehind q) (insert_by (λ (s : ℕ × ℕ). s.0) p rest) → Each (IsBehind q) (cond b (r ∷ insert_by (λ (s : ℕ × ℕ). s.0) p rest) (p ∷ (r ∷ rest)))
    go true ih = (h.0, ih)
    go false ih = ((omega arith, λ e. absurd (omega arith)), h)

before-all : (p : ℕ × ℕ) (rest : Pairs) (late : ℕ) → p.0 ≤ late → Each (λ (q : ℕ × ℕ). late ≤ q.0) rest → Each (λ (q : ℕ × ℕ). p.1 ≤ q.1) rest → Each (IsBehind p) rest
before-all p [] late l h k = tt
before-all p (q ∷ rest) late l h k = ((omega (arith, h.0), λ e. k.0), before-all p rest late l h.1 k.1)

-- an earlier position goes before the others of its time
insert-ascends : (p : ℕ × ℕ) (rest : Pairs) → Ascends rest → Each (λ (q : ℕ × ℕ). p.1 ≤ q.1) rest → Ascends (insert_by (λ (q : ℕ × ℕ). q.0) p rest)
insert-ascends p [] h k = (tt, tt)
insert-ascends p (q ∷ rest) h k = go (ltb q.0 p.0) refl (insert-ascends p rest h.1 k.1)
  where
    go : (b : Bool) → ltb q.0 p.0 ≡ b → Ascends (insert_by (λ (r : ℕ × ℕ). r.0) p rest) → Ascends (cond b (q ∷ insert_by (λ (r : ℕ × ℕ). r.0) p rest) (p ∷ (q ∷ rest)))
    go true e ih = (behind-each p q rest (ltb-true _ _ e) h.0, ih)
    go false e ih =
        let l : p.0 ≤ q.0 = grind (arith, nat_tests) in
        (((l, λ same. k.0), before-all p rest q.0 l (Each-weaker _ _ (λ r b. b.0) rest h.0) k.1), h)

late-positions : (position late : ℕ) (fates : List Fate) → position ≤ late → Each (λ (q : ℕ × ℕ). position ≤ q.1) (departures_from late fates)
late-positions position late [] l = tt
late-positions position late (Departs time ∷ fates) l = (l, late-positions position (suc late) fates (omega arith))
late-positions position late (Lost ∷ fates) l = late-positions position (suc late) fates (omega arith)
late-positions position late (Held ∷ fates) l = late-positions position (suc late) fates (omega arith)

pub ascends : (position : ℕ) (fates : List Fate) → Ascends (by_first (departures_from position fates))
ascends position [] = tt
ascends position (Departs time ∷ fates) =
    insert-ascends (time, position) (by_first (departures_from (suc position) fates)) (ascends (suc position) fates)
    (Each-order (λ (q : ℕ × ℕ). position ≤ q.1) (λ (q : ℕ × ℕ). q.0) _ (late-positions position (suc position) fates (omega arith)))
ascends position (Lost ∷ fates) = ascends (suc position) fates
ascends position (Held ∷ fates) = ascends (suc position) fates
