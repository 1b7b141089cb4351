-- What a visit found, from the departures that are gone.
use Rattle.std.proofs.Common.{◌≡◌, ℕ, zero, suc, ◌+◌, ◌-◌, ◌<◌, ◌≤◌, Bool, false, true, cond, List, [], ◌∷◌, ◌++◌, length, length-take, drop, take, Some, refl, sym, ap, ◌∙◌, subst, arith, append_assoc, Fits, w32, w64}
use Rattle.std.specs.Prelude.{count_by, nat_lt, slice_get}
use Rattle.std.specs.List.{AllByRecursion as Each, zip}
use Rattle.std.proofs.lemmas.Bool.Decides.{nat_tests}
use Rattle.std.proofs.lemmas.List.{append-nil, drop_all}
use Rattle.std.proofs.lemmas.List.Sums.{count_by-le-length, sum_by-append, sum_by-le-sum_by}
use Rattle.std.proofs.lemmas.Option.{slice_get_within, get_or_from_slice_get}
use Rattle.mq_base.proofs.lemmas.Lists.{drop_at, take-at}
use Rattle.mq_base.proofs.lemmas.Counts.{count-cons}
use Rattle.mq_core.specs.SequenceLaws.{LeavesFrom}
use Rattle.mq_core.specs.OnceOut.{departs_after, founds_from}
use Rattle.mq_core.specs.Streams.{by_first}
use Rattle.mq_core.specs.Laws.{Rises}
use Rattle.mq_core.specs.declared.model.Fate.{Fate}
use Rattle.mq_core.specs.declared.model.Fate.TheVariants.{Departs, Held, Lost}
use Rattle.mq_stats.proofs.Ordered.{as-many}
use Rattle.mq_stats.proofs.Passing.{rises-get}
use Rattle.mq_stats.specs.Departures.{departures_from, is_gone, stays, with_departure}

not-yet : (time at d position : ℕ) → at ≤ position → time ≤ d → is_gone time at (d, position) ≡ false
not-yet time at d position l h = grind (arith, nat_tests)

-- an earlier departure is gone, or its visit is still there
gone-or-there : (time at d position : ℕ) → position < at → cond (is_gone time at (d, position)) 1 0 + cond (nat_lt time d) 1 0 ≡ 1
gone-or-there time at d position l = grind (arith, nat_tests)

later-gone : (time later at : ℕ) → time ≤ later → (x : ℕ × ℕ) → cond (is_gone time at x) 1 0 ≤ cond (is_gone later (at + 1) x) 1 0
later-gone time later at l x = grind (arith, nat_tests)

-- of the visits from this one on none is gone
none-left : (time at position : ℕ) (fates : List Fate) → at ≤ position → Each (λ f. LeavesFrom time f) fates → count_by (is_gone time at) (departures_from position fates) ≡ 0
none-left time at position [] l h = refl
none-left time at position (Lost ∷ fates) l h = none-left time at (suc position) fates (omega arith) h.1
none-left time at position (Held ∷ fates) l h = none-left time at (suc position) fates (omega arith) h.1
none-left time at position (Departs d ∷ fates) l h =
    let rest = none-left time at (suc position) fates (omega arith) h.1 in
    count-cons (is_gone time at) (d, position) (departures_from (suc position) fates)
    ∙ (ap (λ b. cond b 1 0 + count_by (is_gone time at) (departures_from (suc position) fates)) (not-yet time at d position l h.0)
    ∙ ap (λ n. 0 + n) rest)

left-after : (time : ℕ) (arrives : List ℕ) (fates : List Fate) → length fates ≡ length arrives → Each (λ a. time ≤ a) arrives → Each (λ (p : ℕ × Fate). LeavesFrom p.0 p.1) (zip arrives fates) → Each (λ f. LeavesFrom time f) fates
left-after time [] [] e a z = tt
left-after time [] (f ∷ fates) e a z = absurd (omega arith)
left-after time (x ∷ arrives) [] e a z = tt
left-after time (x ∷ arrives) (Lost ∷ fates) e a z = (tt, left-after time arrives fates (omega arith) a.1 z.1)
left-after time (x ∷ arrives) (Held ∷ fates) e a z = (tt, left-after time arrives fates (omega arith) a.1 z.1)
left-after time (x ∷ arrives) (Departs d ∷ fates) e a z =
    let early = a.0 in
    let late = z.0 in
    (omega arith, left-after time arrives fates (omega arith) a.1 z.1)

-- of the earlier visits that aren't lost, those that are gone and those that are still there are all
gone-and-there : (at position i time : ℕ) (arrives : List ℕ) (fates : List Fate) → at ≡ position + i → length fates ≡ length arrives → Rises (λ a b. a ≤ b) arrives → Each (λ (p : ℕ × Fate). LeavesFrom p.0 p.1) (zip arrives fates) → slice_get arrives i ≡ Some time →
    count_by (is_gone time at) (departures_from position fates) + count_by (departs_after time) (take i fates) ≡ count_by stays (take i fates)
gone-and-there at position i time [] fates s e r z h = cc
gone-and-there at position zero time (a ∷ arrives) fates s e r z h =
    let now : a ≡ time = get_or_from_slice_get (a ∷ arrives) 0 time 0 h in
    let later : Each (λ b. time ≤ b) arrives = subst (λ t. Each (λ b. t ≤ b) arrives) now r.0 in
    let none = none-left time at position fates (omega arith) (left-after time (a ∷ arrives) fates e ((omega arith), later) z) in
    omega arith
gone-and-there at position (suc i) time (a ∷ arrives) [] s e r z h = absurd (omega arith)
gone-and-there at position (suc i) time (a ∷ arrives) (Lost ∷ fates) s e r z h =
    let rest = gone-and-there at (suc position) i time arrives fates (omega arith) (omega arith) r.1 z.1 h in
    let there = count-cons (departs_after time) Lost (take i fates) in
    let all = count-cons stays Lost (take i fates) in
    omega arith
gone-and-there at position (suc i) time (a ∷ arrives) (Held ∷ fates) s e r z h =
    let rest = gone-and-there at (suc position) i time arrives fates (omega arith) (omega arith) r.1 z.1 h in
    let there = count-cons (departs_after time) Held (take i fates) in
    let all = count-cons stays Held (take i fates) in
    omega arith
gone-and-there at position (suc i) time (a ∷ arrives) (Departs d ∷ fates) s e r z h =
    let rest = gone-and-there at (suc position) i time arrives fates (omega arith) (omega arith) r.1 z.1 h in
    let one = gone-or-there time at d position (omega arith) in
    let gone = count-cons (is_gone time at) (d, position) (departures_from (suc position) fates) in
    let there = count-cons (departs_after time) (Departs d) (take i fates) in
    let all = count-cons stays (Departs d) (take i fates) in
    omega arith

-- of one item more as many more pass a test
pub count-next : {X : Type 0} (test : X → Bool) (xs : List X) (i : ℕ) (x : X) → slice_get xs i ≡ Some x → count_by test (take (i + 1) xs) ≡ count_by test (take i xs) + cond (test x) 1 0
count-next test xs i x h =
    let both = ap (count_by test) (take-at xs i x h) ∙ sum_by-append (λ y. cond (test y) 1 0) (take i xs) (x ∷ []) in
    omega arith

-- One visit further. What is found so far, with what is left, is all.
pub founds-next : (done done' all arrives : List ℕ) (fates : List Fate) (i arrive found : ℕ) (fate : Fate) → slice_get arrives i ≡ Some arrive → slice_get fates i ≡ Some fate → found ≡ count_by (departs_after arrive) (take i fates) → done' ≡ done ++ found ∷ [] →
    done ++ founds_from (take i fates) (drop i arrives) (drop i fates) ≡ all → done' ++ founds_from (take (i + 1) fates) (drop (i + 1) arrives) (drop (i + 1) fates) ≡ all
founds-next done done' all arrives fates i arrive found fate a f n p h =
    let count = count_by (departs_after arrive) (take i fates) in
    let rest = founds_from (take (i + 1) fates) (drop (i + 1) arrives) (drop (i + 1) fates) in
    let here : founds_from (take i fates) (drop i arrives) (drop i fates) ≡ count ∷ founds_from (take i fates ++ fate ∷ []) (drop (i + 1) arrives) (drop (i + 1) fates) =
    λ k. founds_from (take i fates) (drop_at arrives i arrive a k) (drop_at fates i fate f k) in
    let next : founds_from (take i fates) (drop i arrives) (drop i fates) ≡ count ∷ rest = here ∙ ap (λ before. count ∷ founds_from before (drop (i + 1) arrives) (drop (i + 1) fates)) (sym (take-at fates i fate f)) in
    ap (λ l. l ++ rest) p
    ∙ (append_assoc done (found ∷ []) rest
    ∙ (ap (λ x. done ++ x ∷ rest) n
    ∙ (sym (ap (λ l. done ++ l) next) ∙ h)))

pub rises-at : (arrives : List ℕ) (i a b : ℕ) → Rises (λ x y. x ≤ y) arrives → slice_get arrives i ≡ Some a → slice_get arrives (suc i) ≡ Some b → a ≤ b
rises-at arrives i a b r h k =
    let first = get_or_from_slice_get arrives i a 0 h in
    let second = get_or_from_slice_get arrives (suc i) b 0 k in
    let order = rises-get arrives i r (slice_get_within arrives (suc i) b k) in
    omega arith

-- what is gone stays so
pub gone-next : (arrives : List ℕ) (departures : List (ℕ × ℕ)) (i arrive later : ℕ) → Rises (λ x y. x ≤ y) arrives → slice_get arrives i ≡ Some arrive → slice_get arrives (i + 1) ≡ Some later →
    count_by (is_gone arrive i) departures ≤ count_by (is_gone later (i + 1)) departures
gone-next arrives departures i arrive later r a b =
    let e : i + 1 ≡ suc i = omega arith in
    let order = rises-at arrives i arrive later r a (subst (λ n. slice_get arrives n ≡ Some later) e b) in
    sum_by-le-sum_by (λ x. cond (is_gone arrive i x) 1 0) (λ x. cond (is_gone later (i + 1) x) 1 0) departures (later-gone arrive later i order)

-- Departures. Those so far and those of what is left are all.
pub departures-at : (fates : List Fate) (i : ℕ) (fate : Fate) → slice_get fates i ≡ Some fate → departures_from i (drop i fates) ≡ departures_from i (fate ∷ drop (i + 1) fates)
departures-at fates i fate f = ap (departures_from i) (drop_at fates i fate f)

pub departs-next : (done done' all : List (ℕ × ℕ)) (fates : List Fate) (i time : ℕ) → slice_get fates i ≡ Some (Departs time) → done' ≡ done ++ (time, i) ∷ [] → done ++ departures_from i (drop i fates) ≡ all → done' ++ departures_from (i + 1) (drop (i + 1) fates) ≡ all
departs-next done done' all fates i time f p h =
    let e : suc i ≡ i + 1 = omega arith in
    let next : departures_from i (drop i fates) ≡ (time, i) ∷ departures_from (i + 1) (drop (i + 1) fates) = departures-at fates i (Departs time) f ∙ ap (λ n. (time, i) ∷ departures_from n (drop (i + 1) fates)) e in
    ap (λ l. l ++ departures_from (i + 1) (drop (i + 1) fates)) p ∙ (append_assoc done ((time, i) ∷ []) _ ∙ (sym (ap (λ l. done ++ l) next) ∙ h))

-- one that is lost or held has none
pub no-departure : (position : ℕ) (fate : Fate) → ((time : ℕ) → fate ≡ Departs time → ⊥) → (more : List (ℕ × ℕ)) → with_departure position fate more ≡ more
no-departure position (Departs time) none more = absurd (none time refl)
no-departure position Lost none more = refl
no-departure position Held none more = refl

pub none-next : (done all : List (ℕ × ℕ)) (fates : List Fate) (i : ℕ) (fate : Fate) → slice_get fates i ≡ Some fate → ((more : List (ℕ × ℕ)) → with_departure i fate more ≡ more) → done ++ departures_from i (drop i fates) ≡ all → done ++ departures_from (i + 1) (drop (i + 1) fates) ≡ all
none-next done all fates i fate f none h =
    let e : suc i ≡ i + 1 = omega arith in
    let next : departures_from i (drop i fates) ≡ departures_from (i + 1) (drop (i + 1) fates) =
    departures-at fates i fate f ∙ (none (departures_from (suc i) (drop (i + 1) fates)) ∙ ap (λ n. departures_from n (drop (i + 1) fates)) e) in
    sym (ap (λ l. done ++ l) next) ∙ h

-- what is gone and what the visit found are the earlier visits that stay
pub told : (arrives : List ℕ) (fates : List Fate) (departures : List (ℕ × ℕ)) (at time gone stayed : ℕ) → length fates ≡ length arrives → Rises (λ a b. a ≤ b) arrives → Each (λ (p : ℕ × Fate). LeavesFrom p.0 p.1) (zip arrives fates) → departures ≡ by_first (departures_from 0 fates) →
    slice_get arrives at ≡ Some time → gone ≡ count_by (is_gone time at) departures → stayed ≡ count_by stays (take at fates) → gone + count_by (departs_after time) (take at fates) ≡ stayed
told arrives fates departures at time gone stayed e r z p h g s =
    let all = gone-and-there at 0 at time arrives fates (omega arith) e r z h in
    let moved = ap (count_by (is_gone time at)) p ∙ as-many (λ (d : ℕ × ℕ). d.0) (is_gone time at) (departures_from 0 fates) in
    omega arith

-- of so many items no more than all are counted
few-counted : {X : Type 0} (p : X → Bool) (xs : List X) (at n : ℕ) → n ≡ count_by p (take at xs) → n ≤ at
few-counted p xs at n is = omega (arith, count_by-le-length p (take at xs), length-take at xs)

one-at-most : (b : Bool) (n : ℕ) → n ≡ cond b 1 0 → n ≤ 1
one-at-most true n is = omega arith
one-at-most false n is = omega arith

-- one more, or none, is few too
pub counted-few : {X : Type 0} (p : X → Bool) (xs : List X) (at n len many more : ℕ) (b : Bool) → n ≡ count_by p (take at xs) → at < len → len ≡ many → many ≤ 1048576 → more ≡ cond b 1 0
    → n + more ≤ 1048576
counted-few p xs at n len many more b is l all few one =
    let few' = few-counted p xs at n is in
    let one' = one-at-most b more one in
    omega arith

-- and so many less are few
pub less-few : {X : Type 0} (p : X → Bool) (xs : List X) (at n len many less : ℕ) → n ≡ count_by p (take at xs) → at < len → len ≡ many → many ≤ 1048576
    → n - less ≤ 1048576
less-few p xs at n len many less is l all few =
    let few' = few-counted p xs at n is in
    omega arith

pub few-in-32 : (n : ℕ) → n ≤ 1048576 → Fits w32 n
few-in-32 n few = omega arith

pub few-in-64 : (n : ℕ) → n ≤ 1048576 → Fits w64 n
few-in-64 n few = omega arith

-- behind the last visit nothing is left
pub founds-ended : (found all arrives : List ℕ) (before fates : List Fate) (at len : ℕ) → found ++ founds_from before (drop at arrives) fates ≡ all → len ≡ length arrives → len ≤ at → found ≡ all
founds-ended found all arrives before fates at len whole long l =
    let none : drop at arrives ≡ [] = drop_all at arrives (omega arith) in
    sym (append-nil found) ∙ ap (λ rest. found ++ founds_from before rest fates) (sym none) ∙ whole
