-- Emissions with one for each position: who is found, whose fate, and what each visit found.
use Rattle.std.proofs.Common.{Bool, List, None, Option, Some, [], ap, arith, cond, eq-eqb, eqb, eqb-true, false, inl, inr, length, length-append, ltb, map, ne_eqb, refl, subst, suc, sym, true, ℕ, ◌++◌, ◌+◌, ◌<◌, ◌∙◌, ◌∷◌, ◌≡◌, ◌≢◌, ◌≤◌, ◌⊎◌}
use Rattle.std.proofs.lemmas.Bool.Decides.{nat_tests}
use Rattle.std.proofs.lemmas.List.Elements.{filter-append}
use Rattle.std.proofs.lemmas.List.Sums.{sum_by-append}
use Rattle.std.specs.List.{AllByRecursion as Each}
use Rattle.std.specs.Prelude.{count_by, filter, slice_get}
use Rattle.mq_base.proofs.lemmas.Each.{Each-filter, Each-weaker, filter-none, filter-yes}
use Rattle.mq_core.specs.SequenceLaws.{arrives_of, jobs_of}
use Rattle.mq_core.specs.Fates.{fate_by}
use Rattle.mq_core.specs.KindTable.{behaviour_of}
use Rattle.mq_core.specs.Laws.{Rises, in_order_of}
use Rattle.mq_core.specs.EmissionOrder.{EmissionOrder, left_by}
use Rattle.mq_core.specs.EmissionOrder.EmissionOrder.{ByPosition, Mixed, Overtaking}
use Rattle.mq_core.specs.Machine.{Emission, Visit}
use Rattle.mq_core.specs.OnceOut.{departs_after, founds_from}
use Rattle.mq_core.specs.Served.{in_emission_order}
use Rattle.mq_core.specs.Emitting.{leaving_from}
use Rattle.mq_core.specs.Tallies.{arrival_or, emission_at, found_or}
use Rattle.mq_core.specs.declared.model.Fate.{Fate}
use Rattle.mq_core.specs.declared.model.Fate.TheVariants.{Departs, Lost}
use Rattle.mq_core.specs.declared.model.Kind.{Kind}
use Rattle.mq_core.proofs.lemmas.Orders.{filter-order, short-order}
use Rattle.mq_core.proofs.Events.Later.{leaving_later, one_if_later}

-- one emission a visit, by position from this one on, with its job
abbrev pub Numbered : ℕ → List Emission → List Visit → Type 0
Numbered k [] [] = Unit {0}
Numbered k [] (x ∷ xs) = ⊥
Numbered k (m ∷ ms) [] = ⊥
Numbered k (m ∷ ms) (x ∷ xs) = (m.position ≡ k) × (m.job ≡ x.job) × Numbered (suc k) ms xs

pub leaving-numbered : (k : ℕ) (times : List ℕ) (visits : List Visit) → length times ≡ length visits → Numbered k (leaving_from k times visits) visits
leaving-numbered k [] [] e = tt
leaving-numbered k [] (x ∷ xs) e = absurd (omega arith)
leaving-numbered k (time ∷ times) [] e = absurd (omega arith)
leaving-numbered k (time ∷ times) (x ∷ xs) e = (refl, refl, leaving-numbered (suc k) times xs (omega arith))

-- the emission of each position
pub numbered-found : (k p : ℕ) (ms : List Emission) (visits : List Visit) → Numbered k ms visits → k ≤ p → p < k + length visits → (m : Emission) × (emission_at ms p ≡ Some m)
numbered-found k p [] [] n l u = absurd (omega arith)
numbered-found k p [] (x ∷ xs) n l u = absurd n
numbered-found k p (m ∷ ms) [] n l u = absurd n
numbered-found k p (m ∷ ms) (x ∷ xs) n l u = go (eqb m.position p) refl (numbered-found (suc k) p ms xs n.2)
  where
    go : (b : Bool) → eqb m.position p ≡ b → (suc k ≤ p → p < suc k + length xs → (o : Emission) × (emission_at ms p ≡ Some o)) → (o : Emission) × (cond b (Some m) (emission_at ms p) ≡ Some o)
    go true e ih = (m, refl)
    go false e ih = ih (let a = n.0 in let other : m.position ≢ p = (λ q. let c = eq-eqb m.position p q in absurd cc) in omega arith) (omega arith)

-- no emission is of another position
pub numbered-inside : (k : ℕ) (ms : List Emission) (visits : List Visit) → Numbered k ms visits → Each (λ (m : Emission). (k ≤ m.position) × (m.position < k + length visits)) ms
numbered-inside k [] [] n = tt
numbered-inside k [] (x ∷ xs) n = absurd n
numbered-inside k (m ∷ ms) [] n = absurd n
numbered-inside k (m ∷ ms) (x ∷ xs) n =
    let a = n.0 in
    ((omega arith, omega arith), Each-weaker _ _ (λ o h. let b = h.0 in let c = h.1 in (omega arith, omega arith)) ms (numbered-inside (suc k) ms xs n.2))

-- at most one emission is of a position
numbered-once : (k q : ℕ) (ms : List Emission) (visits : List Visit) → Numbered k ms visits → length (filter (λ (m : Emission). eqb m.position q) ms) ≤ 1
numbered-once k q [] [] n = omega arith
numbered-once k q [] (x ∷ xs) n = absurd n
numbered-once k q (m ∷ ms) [] n = absurd n
numbered-once k q (m ∷ ms) (x ∷ xs) n = go (eqb m.position q) refl (numbered-once (suc k) q ms xs n.2)
  where
    none : m.position ≡ q → length (filter (λ (o : Emission). eqb o.position q) ms) ≡ 0
    none e = ap length (filter-none (λ (o : Emission). eqb o.position q) ms (Each-weaker _ _ (λ o h. ne_eqb o.position q (λ f. let a = h.0 in let b = n.0 in omega arith)) ms (numbered-inside (suc k) ms xs n.2)))

    go : (b : Bool) → eqb m.position q ≡ b → length (filter (λ (o : Emission). eqb o.position q) ms) ≤ 1 → length (cond b (m ∷ filter (λ (o : Emission). eqb o.position q) ms) (filter (λ (o : Emission). eqb o.position q) ms)) ≤ 1
    go true e ih = let a = none (eqb-true m.position q e) in omega arith
    go false e ih = ih

-- the emission of a position is the first of those that are of it
abbrev head : List Emission → Option Emission
head [] = None
head (m ∷ ms) = Some m

found-head : (q : ℕ) (ms : List Emission) → emission_at ms q ≡ head (filter (λ (m : Emission). eqb m.position q) ms)
found-head q [] = refl
found-head q (m ∷ ms) = go (eqb m.position q) (found-head q ms)
  where
    go : (b : Bool) → emission_at ms q ≡ head (filter (λ (o : Emission). eqb o.position q) ms) → cond b (Some m) (emission_at ms q) ≡ head (cond b (m ∷ filter (λ (o : Emission). eqb o.position q) ms) (filter (λ (o : Emission). eqb o.position q) ms))
    go true ih = refl
    go false ih = ih

-- to sort by time keeps those of a position
sorted-parts : (k : ℕ) (ms : List Emission) (visits : List Visit) → Numbered k ms visits → (q : ℕ) → filter (λ (m : Emission). eqb m.position q) (in_order_of (λ (m : Emission). m.time) ms) ≡ filter (λ (m : Emission). eqb m.position q) ms
sorted-parts k ms visits n q =
    filter-order (λ (m : Emission). m.time) (λ (m : Emission). eqb m.position q) ms
    ∙ short-order (λ (m : Emission). m.time) (filter (λ (m : Emission). eqb m.position q) ms) (numbered-once k q ms visits n)

-- emission order keeps those of a position
order-parts : (kind : Kind) (k : ℕ) (ms : List Emission) (visits : List Visit) → Numbered k ms visits → (q : ℕ) → filter (λ (m : Emission). eqb m.position q) (in_emission_order kind ms) ≡ filter (λ (m : Emission). eqb m.position q) ms
order-parts kind k ms visits n q = go (behaviour_of kind).order
  where
    go : (order : EmissionOrder) → filter (λ (m : Emission). eqb m.position q) (left_by order ms) ≡ filter (λ (m : Emission). eqb m.position q) ms
    go ByPosition = refl
    go Mixed = sorted-parts k ms visits n q
    go Overtaking = sorted-parts k ms visits n q

-- each position is found as if all left by position
pub order-found : (kind : Kind) (k : ℕ) (ms : List Emission) (visits : List Visit) → Numbered k ms visits → (q : ℕ) → emission_at (in_emission_order kind ms) q ≡ emission_at ms q
order-found kind k ms visits n q = found-head q (in_emission_order kind ms) ∙ (ap head (order-parts kind k ms visits n q) ∙ sym (found-head q ms))

-- each emission is the one that is found by its position, which is that of a visit
pub order-own : (kind : Kind) (ms : List Emission) (visits : List Visit) → Numbered 0 ms visits → (before after : List Emission) (m : Emission) → in_emission_order kind ms ≡ before ++ m ∷ after → (emission_at (in_emission_order kind ms) m.position ≡ Some m) × (m.position < length visits)
order-own kind ms visits n before after m whole =
    go (filter test before) (found-head m.position (in_emission_order kind ms)) parts once (Each-filter _ test ms (numbered-inside 0 ms visits n))
  where
    test : Emission → Bool
    test o = eqb o.position m.position

    parts : filter test (in_emission_order kind ms) ≡ filter test before ++ m ∷ filter test after
    parts = ap (filter test) whole ∙ (filter-append test before (m ∷ after) ∙ ap (λ l. filter test before ++ l) (filter-yes test m after (eq-eqb m.position m.position refl)))

    same : filter test (in_emission_order kind ms) ≡ filter test ms
    same = order-parts kind 0 ms visits n m.position

    once : length (filter test (in_emission_order kind ms)) ≤ 1
    once = subst (λ l. length l ≤ 1) (sym same) (numbered-once 0 m.position ms visits n)

    go : (front : List Emission) → emission_at (in_emission_order kind ms) m.position ≡ head (filter test (in_emission_order kind ms)) → filter test (in_emission_order kind ms) ≡ front ++ m ∷ filter test after → length (filter test (in_emission_order kind ms)) ≤ 1 → Each (λ (o : Emission). (0 ≤ o.position) × (o.position < 0 + length visits)) (filter test ms) → (emission_at (in_emission_order kind ms) m.position ≡ Some m) × (m.position < length visits)
    go [] found e l inside =
        let all = subst (Each (λ (o : Emission). (0 ≤ o.position) × (o.position < 0 + length visits))) (sym same ∙ e) inside in
        let own = all.0.1 in
        (found ∙ ap head e, omega arith)
    go (o ∷ front) found e l inside = absurd (let a = ap length e in let b = length-append front (m ∷ filter test after) in omega arith)

-- emissions that from this position on are found as in others
abbrev pub FoundAs : ℕ → List Emission → List Emission → Type 0
FoundAs k emitted ms = (q : ℕ) → k ≤ q → emission_at emitted q ≡ emission_at ms q

pub found_as-next : (k : ℕ) (emitted ms : List Emission) (m : Emission) → m.position ≡ k → FoundAs k emitted (m ∷ ms) → FoundAs (suc k) emitted ms
found_as-next k emitted ms m at h q l =
    let no : eqb m.position q ≡ false = ne_eqb m.position q (λ e. omega arith) in
    h q (omega arith) ∙ ap (λ b. cond b (Some m) (emission_at ms q)) no

pub found_as-here : (k : ℕ) (emitted ms : List Emission) (m : Emission) → m.position ≡ k → FoundAs k emitted (m ∷ ms) → emission_at emitted k ≡ Some m
found_as-here k emitted ms m at h = h k (omega arith) ∙ ap (λ b. cond b (Some m) (emission_at ms k)) (eq-eqb m.position k at)

-- the jobs of the emissions are those of the visits
pub jobs-numbered : (k : ℕ) (ms : List Emission) (visits : List Visit) → Numbered k ms visits → map (λ (m : Emission). m.job) ms ≡ jobs_of visits
jobs-numbered k [] [] n = refl
jobs-numbered k [] (x ∷ xs) n = absurd n
jobs-numbered k (m ∷ ms) [] n = absurd n
jobs-numbered k (m ∷ ms) (x ∷ xs) n = λ i. n.1 i ∷ jobs-numbered (suc k) ms xs n.2 i

-- a visit departs when it is let out, or is lost and let out as it comes
abbrev pub LeavesBy : (Emission → Fate) → Emission → Visit → Type 0
LeavesBy fate m x = (fate m ≡ Departs m.time) ⊎ ((fate m ≡ Lost) × (m.time ≡ x.arrive))

abbrev pub EachLeavesBy : (Emission → Fate) → List Emission → List Visit → Type 0
EachLeavesBy fate [] xs = Unit {0}
EachLeavesBy fate (m ∷ ms) [] = Unit {0}
EachLeavesBy fate (m ∷ ms) (x ∷ xs) = LeavesBy fate m x × EachLeavesBy fate ms xs

-- the same at a node of a kind
abbrev pub LeavesAs : Kind → Emission → Visit → Type 0
LeavesAs kind m x = LeavesBy (fate_by kind) m x

abbrev pub EachLeaves : Kind → List Emission → List Visit → Type 0
EachLeaves kind ms xs = EachLeavesBy (fate_by kind) ms xs

-- whoever leaves later than this, one by one, where this isn't before it came
later-departs : (kind : Kind) (time : ℕ) (m : Emission) (x : Visit) → LeavesAs kind m x → x.arrive ≤ time → one_if_later time (Some m) ≡ count_by (departs_after time) (fate_by kind m ∷ [])
later-departs kind time m x (inl e) l = rw e (omega arith)
later-departs kind time m x (inr e) l = rw e.0 (not-later time m.time (let at = e.1 in omega arith))
  where
    not-later : (a b : ℕ) → b ≤ a → cond (ltb a b) 1 0 ≡ count_by (departs_after a) (Lost ∷ [])
    not-later a b h = grind (arith, nat_tests)

-- what each visit found is the number of the earlier ones that depart after its arrival, since none came later than it
pub founds-numbered : (kind : Kind) (k low : ℕ) (emitted ms : List Emission) (before : List Fate) (visits : List Visit) → Numbered k ms visits → FoundAs k emitted ms → EachLeaves kind ms visits → Rises (λ a b. a ≤ b) (low ∷ arrives_of visits) →
    ((time : ℕ) → low ≤ time → count_by (departs_after time) before ≡ leaving_later time emitted k) →
    ((j : ℕ) → j < length visits → found_or 0 (slice_get visits j) ≡ leaving_later (arrival_or 0 (slice_get visits j)) emitted (k + j)) →
    map (λ (x : Visit). x.found) visits ≡ founds_from before (arrives_of visits) (map (fate_by kind) ms)
founds-numbered kind k low emitted [] before [] n h leaves rise same found = refl
founds-numbered kind k low emitted [] before (x ∷ xs) n h leaves rise same found = absurd n
founds-numbered kind k low emitted (m ∷ ms) before [] n h leaves rise same found = absurd n
founds-numbered kind k low emitted (m ∷ ms) before (x ∷ xs) n h leaves rise same found =
    let tail =
    founds-numbered kind (suc k) x.arrive emitted ms (before ++ fate_by kind m ∷ []) xs n.2 (found_as-next k emitted ms m n.0 h) leaves.1 rise.1 more
    (λ j l. let e : k + suc j ≡ suc k + j = omega arith in found (suc j) (omega arith) ∙ ap (leaving_later (arrival_or 0 (slice_get xs j)) emitted) e) in
    λ i. head i ∷ tail i
  where
    above : low ≤ x.arrive
    above = rise.0.0

    head : x.found ≡ count_by (departs_after x.arrive) before
    head = let z : k + 0 ≡ k = omega arith in found 0 (omega arith) ∙ (ap (leaving_later x.arrive emitted) z ∙ sym (same x.arrive above))

    more : (time : ℕ) → x.arrive ≤ time → count_by (departs_after time) (before ++ fate_by kind m ∷ []) ≡ leaving_later time emitted (suc k)
    more time l =
        let up = above in
        let a = sum_by-append (λ f. cond (departs_after time f) 1 0) before (fate_by kind m ∷ []) in
        let b = ap (one_if_later time) (found_as-here k emitted ms m n.0 h) in
        let c = later-departs kind time m x leaves.0 l in
        let d = same time (omega arith) in
        omega arith
