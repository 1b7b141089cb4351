-- A list that is put in order, item by item, and emissions that stand in another order than that of their positions.
use Rattle.std.proofs.Common.{◌≡◌, ℕ, zero, suc, ◌+◌, ◌<◌, ◌≤◌, Bool, true, false, cond, eqb, ltb, List, [], ◌∷◌, ◌++◌, length, Some, None, sym, refl, ap, ◌∙◌, subst, arith, eqb-true, eq-eqb, ne_eqb}
use Rattle.std.proofs.lemmas.Bool.Decides.{nat_tests}
use Rattle.std.proofs.lemmas.List.{append-nil}
use Rattle.std.proofs.lemmas.List.Elements.{filter-append}
use Rattle.std.specs.Prelude.{filter}
use Rattle.std.specs.List.{AllByRecursion as Each}
use Rattle.std.proofs.Math.Arith.{lt_of_le-ne}
use Rattle.mq_base.proofs.lemmas.Each.{Each-weaker, filter-none, filter-yes, filter-no}
use Rattle.mq_core.specs.Laws.{Rises, in_order_of, insert_by}
use Rattle.mq_core.specs.Machine.{Visit, Emission}
use Rattle.mq_core.specs.Tallies.{sum_below, emission_at, one_if_none, staying}
use Rattle.mq_core.proofs.Events.Areas.{sum-both, sum-none, sum-same}
use Rattle.mq_core.proofs.lemmas.Rising.{Rises-append, same_by_key, filter-in_order_of, Rises-in_order_of}
use Rattle.mq_core.proofs.Counting.SequenceNumbers.{Numbered}

Rises-front : {X : Type 0} (R : X → X → Type 0) (xs ys : List X) → Rises R (xs ++ ys) → Rises R xs
Rises-front R [] ys h = tt
Rises-front {X} R (x ∷ xs) ys h = (front xs h.0, Rises-front R xs ys h.1)
  where
    front : (zs : List X) → Each (R x) (zs ++ ys) → Each (R x) zs
    front [] k = tt
    front (z ∷ zs) k = (k.0, front zs k.1)

Rises-back : {X : Type 0} (R : X → X → Type 0) (xs ys : List X) → Rises R (xs ++ ys) → Rises R ys
Rises-back R [] ys h = h
Rises-back R (x ∷ xs) ys h = Rises-back R xs ys h.1

-- a further item stands behind those whose key isn't greater, and before the others
pub in_order-push : {X : Type 0} (key : X → ℕ) (front back all : List X) (m : X) → front ++ back ≡ in_order_of key all → Each (λ a. key a ≤ key m) front → Each (λ a. key m < key a) back → front ++ m ∷ back ≡ in_order_of key (all ++ m ∷ [])
in_order-push {X} key front back all m h low high = same_by_key key (front ++ m ∷ back) (in_order_of key (all ++ m ∷ [])) rises (Rises-in_order_of key (all ++ m ∷ [])) parts
  where
    old : Rises (λ a b. key a ≤ key b) (front ++ back)
    old = subst (Rises (λ a b. key a ≤ key b)) (sym h) (Rises-in_order_of key all)

    rises : Rises (λ a b. key a ≤ key b) (front ++ m ∷ back)
    rises =
        Rises-append (λ a b. key a ≤ key b) front (m ∷ back) (Rises-front _ front back old)
        (Each-weaker _ _ (λ b k. omega arith) back high, Rises-back _ front back old)
        (Each-weaker _ _ (λ a k. (k, Each-weaker _ _ (λ b l. omega arith) back high)) front low)

    parts : (k : ℕ) → filter (λ a. eqb (key a) k) (front ++ m ∷ back) ≡ filter (λ a. eqb (key a) k) (in_order_of key (all ++ m ∷ []))
    parts k = filter-append (λ a. eqb (key a) k) front (m ∷ back) ∙ (go (eqb (key m) k) refl ∙ sym right)
      where
        right : filter (λ a. eqb (key a) k) (in_order_of key (all ++ m ∷ [])) ≡ (filter (λ a. eqb (key a) k) front ++ filter (λ a. eqb (key a) k) back) ++ filter (λ a. eqb (key a) k) (m ∷ [])
        right =
            filter-in_order_of key k (all ++ m ∷ [])
            ∙ (filter-append (λ a. eqb (key a) k) all (m ∷ [])
            ∙ ap (λ l. l ++ filter (λ a. eqb (key a) k) (m ∷ []))
            (sym (filter-in_order_of key k all) ∙ (ap (filter (λ a. eqb (key a) k)) (sym h) ∙ filter-append (λ a. eqb (key a) k) front back)))

        go : (b : Bool) → eqb (key m) k ≡ b → filter (λ a. eqb (key a) k) front ++ filter (λ a. eqb (key a) k) (m ∷ back) ≡ (filter (λ a. eqb (key a) k) front ++ filter (λ a. eqb (key a) k) back) ++ filter (λ a. eqb (key a) k) (m ∷ [])
        go true e =
            let same : key m ≡ k = eqb-true (key m) k e in
            let none : filter (λ a. eqb (key a) k) back ≡ [] = filter-none (λ a. eqb (key a) k) back (Each-weaker _ _ (λ b l. ne_eqb (key b) k (λ q. omega arith)) back high) in
            ap (λ l. filter (λ a. eqb (key a) k) front ++ l) (filter-yes (λ a. eqb (key a) k) m back e ∙ ap (λ l. m ∷ l) none)
            ∙ sym (ap (λ l. (filter (λ a. eqb (key a) k) front ++ l) ++ filter (λ a. eqb (key a) k) (m ∷ [])) none
            ∙ (ap (λ l. l ++ filter (λ a. eqb (key a) k) (m ∷ [])) (append-nil (filter (λ a. eqb (key a) k) front)) ∙ ap (λ l. filter (λ a. eqb (key a) k) front ++ l) (filter-yes (λ a. eqb (key a) k) m [] e)))
        go false e =
            ap (λ l. filter (λ a. eqb (key a) k) front ++ l) (filter-no (λ a. eqb (key a) k) m back e)
            ∙ sym (ap (λ l. (filter (λ a. eqb (key a) k) front ++ filter (λ a. eqb (key a) k) back) ++ l) (filter-no (λ a. eqb (key a) k) m [] e)
            ∙ append-nil (filter (λ a. eqb (key a) k) front ++ filter (λ a. eqb (key a) k) back))

-- how many of these emissions are of a position
abbrev pub times_at : ℕ → List Emission → ℕ
times_at p [] = 0
times_at p (m ∷ ms) = cond (eqb m.position p) 1 0 + times_at p ms

pub times_at-append : (p : ℕ) (xs ys : List Emission) → times_at p (xs ++ ys) ≡ times_at p xs + times_at p ys
times_at-append p [] ys = omega arith
times_at-append p (x ∷ xs) ys = let ih = times_at-append p xs ys in omega arith

times_at-insert : (key : Emission → ℕ) (p : ℕ) (m : Emission) (ms : List Emission) → times_at p (insert_by key m ms) ≡ times_at p (m ∷ ms)
times_at-insert key p m [] = refl
times_at-insert key p m (y ∷ ys) = go (ltb (key y) (key m)) (times_at-insert key p m ys)
  where
    go : (b : Bool) → times_at p (insert_by key m ys) ≡ times_at p (m ∷ ys) → times_at p (cond b (y ∷ insert_by key m ys) (m ∷ (y ∷ ys))) ≡ times_at p (m ∷ (y ∷ ys))
    go true ih = omega arith
    go false ih = refl

-- what is put in order has as many of each position
pub times_at-in_order : (key : Emission → ℕ) (p : ℕ) (ms : List Emission) → times_at p (in_order_of key ms) ≡ times_at p ms
times_at-in_order key p [] = refl
times_at-in_order key p (m ∷ ms) = let ih = times_at-in_order key p ms in let e = times_at-insert key p m (in_order_of key ms) in omega arith

times_at-below : (k p : ℕ) (ms : List Emission) (xs : List Visit) → Numbered k ms xs → p < k → times_at p ms ≡ 0
times_at-below k p [] [] n l = refl
times_at-below k p [] (x ∷ xs) n l = absurd n
times_at-below k p (m ∷ ms) [] n l = absurd n
times_at-below k p (m ∷ ms) (x ∷ xs) n l =
    let ih = times_at-below (suc k) p ms xs n.2 (omega arith) in
    let at = n.0 in
    rw (ne_eqb m.position p (λ e. omega arith)) (omega arith)

-- where emissions stand by position there is one of each
pub times_at-numbered : (k p : ℕ) (ms : List Emission) (xs : List Visit) → Numbered k ms xs → k ≤ p → p < k + length xs → times_at p ms ≡ 1
times_at-numbered k p [] [] n l u = absurd (omega arith)
times_at-numbered k p [] (x ∷ xs) n l u = absurd n
times_at-numbered k p (m ∷ ms) [] n l u = absurd n
times_at-numbered k p (m ∷ ms) (x ∷ xs) n l u = go (eqb k p) refl (times_at-numbered (suc k) p ms xs n.2)
  where
    go : (b : Bool) → eqb k p ≡ b → (suc k ≤ p → p < suc k + length xs → times_at p ms ≡ 1) → times_at p (m ∷ ms) ≡ 1
    go true e ih =
        let same : k ≡ p = eqb-true k p e in
        let at = n.0 in
        let none = times_at-below (suc k) p ms xs n.2 (omega arith) in
        rw (eq-eqb m.position p (omega arith)) (omega arith)
    go false e ih =
        let other : k ≡ p → ⊥ = λ q. let c = eq-eqb k p q in absurd cc in
        let at = n.0 in
        let one = ih (above k p other l) (omega arith) in
        rw (ne_eqb m.position p (λ q. other (sym at ∙ q))) (omega arith)
      where
        above : (a b : ℕ) → (a ≡ b → ⊥) → a ≤ b → suc a ≤ b
        above a b h l = omega arith

-- and none of a position past them
pub times_at-beyond : (k p : ℕ) (ms : List Emission) (xs : List Visit) → Numbered k ms xs → k + length xs ≤ p → times_at p ms ≡ 0
times_at-beyond k p [] [] n l = refl
times_at-beyond k p [] (x ∷ xs) n l = absurd n
times_at-beyond k p (m ∷ ms) [] n l = absurd n
times_at-beyond k p (m ∷ ms) (x ∷ xs) n l =
    let ih = times_at-beyond (suc k) p ms xs n.2 (omega arith) in
    let at = n.0 in
    rw (ne_eqb m.position p (λ e. omega arith)) (omega arith)

-- so there is one at most
pub times_at-once : (p : ℕ) (ms : List Emission) (xs : List Visit) → Numbered 0 ms xs → times_at p ms ≤ 1
times_at-once p ms xs n = go (ltb p (length xs)) refl
  where
    below : (a b : ℕ) → ltb a b ≡ true → a < 0 + b
    below a b h = grind (arith, nat_tests)

    beyond : (a b : ℕ) → ltb a b ≡ false → 0 + b ≤ a
    beyond a b h = grind (arith, nat_tests)

    go : (b : Bool) → ltb p (length xs) ≡ b → times_at p ms ≤ 1
    go true e = let one = times_at-numbered 0 p ms xs n (omega arith) (below p (length xs) e) in omega arith
    go false e = let none = times_at-beyond 0 p ms xs n (beyond p (length xs) e) in omega arith

-- a position of which there is none isn't found
pub emission_at-none : (p : ℕ) (ms : List Emission) → times_at p ms ≡ 0 → emission_at ms p ≡ None
emission_at-none p [] h = refl
emission_at-none p (m ∷ ms) h = go (eqb m.position p) h (emission_at-none p ms)
  where
    go : (b : Bool) → cond b 1 0 + times_at p ms ≡ 0 → (times_at p ms ≡ 0 → emission_at ms p ≡ None) → cond b (Some m) (emission_at ms p) ≡ None
    go true k ih = absurd (omega arith)
    go false k ih = ih (omega arith)

pub emission_at-some : (p : ℕ) (ms : List Emission) → 1 ≤ times_at p ms → (m : Emission) × (emission_at ms p ≡ Some m)
emission_at-some p [] h = absurd (omega arith)
emission_at-some p (m ∷ ms) h = go (eqb m.position p) h (emission_at-some p ms)
  where
    go : (b : Bool) → 1 ≤ cond b 1 0 + times_at p ms → (1 ≤ times_at p ms → (k : Emission) × (emission_at ms p ≡ Some k)) → (k : Emission) × (cond b (Some m) (emission_at ms p) ≡ Some k)
    go true k ih = (m, refl)
    go false k ih = ih (omega arith)

emission_at-insert : (key : Emission → ℕ) (p : ℕ) (m : Emission) (ms : List Emission) → times_at p (m ∷ ms) ≤ 1 → emission_at (insert_by key m ms) p ≡ emission_at (m ∷ ms) p
emission_at-insert key p m [] h = refl
emission_at-insert key p m (y ∷ ys) h = go (ltb (key y) (key m)) (emission_at-insert key p m ys (omega arith))
  where
    both : (a b : Bool) → cond a 1 0 + (cond b 1 0 + times_at p ys) ≤ 1 → emission_at (insert_by key m ys) p ≡ cond a (Some m) (emission_at ys p) → cond b (Some y) (emission_at (insert_by key m ys) p) ≡ cond a (Some m) (cond b (Some y) (emission_at ys p))
    both true true l ih = absurd (omega arith)
    both true false l ih = ih
    both false true l ih = refl
    both false false l ih = ih

    go : (b : Bool) → emission_at (insert_by key m ys) p ≡ emission_at (m ∷ ys) p → emission_at (cond b (y ∷ insert_by key m ys) (m ∷ (y ∷ ys))) p ≡ emission_at (m ∷ (y ∷ ys)) p
    go true ih = both (eqb m.position p) (eqb y.position p) h ih
    go false ih = refl

-- a position of which there is one at most is found alike whatever the order
pub emission_at-in_order : (key : Emission → ℕ) (p : ℕ) (ms : List Emission) → times_at p ms ≤ 1 → emission_at (in_order_of key ms) p ≡ emission_at ms p
emission_at-in_order key p [] h = refl
emission_at-in_order key p (m ∷ ms) h =
    let same = times_at-in_order key p ms in
    emission_at-insert key p m (in_order_of key ms) (omega arith)
    ∙ ap (λ o. cond (eqb m.position p) (Some m) o) (emission_at-in_order key p ms (omega arith))

-- the positions below n among these are all of them
sum-times : (n : ℕ) (ms : List Emission) → Each (λ (m : Emission). m.position < n) ms → sum_below n (λ p. times_at p ms) ≡ length ms
sum-times n [] h = sum-none n _ (λ k l. refl)
sum-times n (m ∷ ms) h =
    let a = sum-both n (λ p. cond (eqb m.position p) 1 0) (λ p. times_at p ms) (λ p. times_at p (m ∷ ms)) (λ p. refl) in
    let b = one n h.0 in
    let c = sum-times n ms h.1 in
    omega arith
  where
    above : (k : ℕ) → k ≤ m.position → sum_below k (λ p. cond (eqb m.position p) 1 0) ≡ 0
    above k l = sum-none k _ (λ p u. ap (λ b. cond b 1 0) (ne_eqb m.position p (λ q. omega arith)))

    one : (k : ℕ) → m.position < k → sum_below k (λ p. cond (eqb m.position p) 1 0) ≡ 1
    one zero l = absurd (omega arith)
    one (suc k) l = go (eqb m.position k) refl (one k)
      where
        go : (b : Bool) → eqb m.position k ≡ b → (m.position < k → sum_below k (λ p. cond (eqb m.position p) 1 0) ≡ 1) → cond b 1 0 + sum_below k (λ p. cond (eqb m.position p) 1 0) ≡ 1
        go true e ih = let same : m.position ≡ k = eqb-true m.position k e in let z = above k (omega arith) in omega arith
        go false e ih =
            let other : m.position ≡ k → ⊥ = λ q. let c = eq-eqb m.position k q in absurd cc in
            let r = ih (lt_of_le-ne (omega arith) other) in omega arith

-- where each position was let out or is still to leave, once in all, as many stay as are to leave
pub staying-coming : (visits : List Visit) (emitted coming : List Emission) → ((p : ℕ) → p < length visits → times_at p emitted + times_at p coming ≡ 1) → Each (λ (m : Emission). m.position < length visits) coming → staying visits (emission_at emitted) ≡ length coming
staying-coming visits emitted coming once inside =
    sum-same (length visits) _ _ (λ p l. go p (times_at p emitted) refl (once p l)) ∙ sum-times (length visits) coming inside
  where
    go : (p count : ℕ) → times_at p emitted ≡ count → times_at p emitted + times_at p coming ≡ 1 → one_if_none (emission_at emitted p) ≡ times_at p coming
    go p zero e h = ap one_if_none (emission_at-none p emitted e) ∙ omega arith
    go p (suc count) e h = let some = emission_at-some p emitted (omega arith) in ap one_if_none some.1 ∙ omega arith
