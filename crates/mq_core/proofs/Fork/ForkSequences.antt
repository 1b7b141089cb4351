-- The sequences of a fork.
use Rattle.std.proofs.Common.{◌≡◌, ℕ, zero, suc, ◌+◌, ◌<◌, ◌≤◌, Bool, true, false, cond, eqb, ltb, List, [], ◌∷◌, ◌++◌, length, map, Some, refl, sym, ap, arith, subst, ◌∙◌, append_assoc, eq-eqb, eqb-true}
use Rattle.std.proofs.lemmas.Bool.Decides.{nat_tests}
use Rattle.std.proofs.lemmas.List.{append-nil, map-append}
use Rattle.std.proofs.lemmas.List.Elements.{filter-append}
use Rattle.std.proofs.lemmas.Option.{slice_get_within}
use Rattle.mq_core.proofs.Events.Founds.{found-each}
use Rattle.std.specs.List.{AllByRecursion as Each}
use Rattle.std.specs.Option.{option_map}
use Rattle.std.specs.Prelude.{count_by, nat_lt, slice_get, ◌==◌}
use Rattle.mq_core.specs.SequenceLaws.{arrives_of, jobs_of}
use Rattle.mq_core.specs.Kinds.Fork.{copied, copied_from, fork}
use Rattle.mq_core.specs.Laws.{Rises, stream_of}
use Rattle.mq_core.specs.Local.{Local}
use Rattle.mq_core.specs.Machine.{Emission, Station, Visit}
use Rattle.mq_core.specs.OnceOut.{departs_after, founds_from, founds_of}
use Rattle.mq_core.specs.Tallies.{arrival_or, emission_at, found_or, sum_below}
use Rattle.mq_core.specs.declared.model.Fate.{Fate}
use Rattle.mq_core.specs.declared.model.Fate.TheVariants.{Departs}
use Rattle.mq_core.specs.Results.{fates_by, or_held}
use Rattle.mq_base.proofs.lemmas.Lists.{get-some, some_inj}
use Rattle.mq_core.specs.Tallies.{one_if_there}
use Rattle.mq_core.proofs.Fork.Forks.{copied-found, copied-position, find-back, find-front}
use Rattle.mq_base.proofs.lemmas.Each.{Each-append, Each-weaker}
use Rattle.mq_base.proofs.lemmas.Counts.{count-push}
use Rattle.mq_core.proofs.Events.Areas.{sum-none}

copied-time : (outputs p : ℕ) (x : Visit) → Each (λ (m : Emission). m.time ≡ x.arrive) (copied outputs p x)
copied-time zero p x = tt
copied-time (suc outputs) p x = Each-append _ (copied outputs p x) _ (copied-time outputs p x) (refl, tt)

-- the first copy of each visit, one by one
abbrev CopiedAt : ℕ → List Emission → List Visit → Type 0
CopiedAt k emitted [] = Unit {0}
CopiedAt k emitted (x ∷ xs) = ((m : Emission) × (emission_at emitted k ≡ Some m) × (m.time ≡ x.arrive)) × CopiedAt (suc k) emitted xs

copied-each : (outputs k : ℕ) (before : List Emission) (xs : List Visit) → Each (λ (m : Emission). m.position < k) before → CopiedAt k (before ++ copied_from (suc outputs) k xs) xs
copied-each outputs k before [] h = tt
copied-each outputs k before (x ∷ xs) h =
    let one = copied-found outputs k x in (
      (
        one.0,
        find-back k before (copied (suc outputs) k x ++ copied_from (suc outputs) (suc k) xs) (Each-weaker _ _ (λ m l e. absurd (omega arith)) before h) ∙ find-front k (copied (suc outputs) k x) (copied_from (suc outputs) (suc k) xs) one.0 one.1,
        found-each (λ (m : Emission). m.time ≡ x.arrive) (copied (suc outputs) k x) k one.0 (copied-time (suc outputs) k x) one.1,
      ),
      subst (λ l. CopiedAt (suc k) l xs) (append_assoc before (copied (suc outputs) k x) (copied_from (suc outputs) (suc k) xs))
          (copied-each outputs (suc k) (before ++ copied (suc outputs) k x) xs (Each-append _ before _ (Each-weaker _ _ (λ m l. omega arith) before h) (Each-weaker _ _ (λ m e. omega arith) (copied (suc outputs) k x) (copied-position (suc outputs) k x)))),
    )

-- each visit departs as it comes
fares-copied : (outputs k : ℕ) (s : Station Local) (xs : List Visit) → CopiedAt k s.emitted xs → fates_by (fork outputs) s k xs ≡ map (λ time. Departs time) (arrives_of xs)
fares-copied outputs k s [] h = refl
fares-copied outputs k s (x ∷ xs) h =
    let m = h.0.0 in
    let one : or_held (option_map (λ (n : Emission). Departs n.time) (emission_at s.emitted k)) ≡ Departs x.arrive = ap (λ o. or_held (option_map (λ (n : Emission). Departs n.time) o)) h.0.1 ∙ ap (λ t. Departs t) h.0.2 in
    λ i. one i ∷ fares-copied outputs (suc k) s xs h.1 i

pub fork-fares : (outputs : ℕ) (s : Station Local) → 1 ≤ outputs → s.emitted ≡ copied_from outputs 0 s.visits → fates_by (fork outputs) s 0 s.visits ≡ map (λ time. Departs time) (arrives_of s.visits)
fork-fares zero s l left = absurd (omega arith)
fork-fares (suc outputs) s l left = fares-copied (suc outputs) 0 s s.visits (subst (λ e. CopiedAt 0 e s.visits) (sym left) (copied-each outputs 0 [] s.visits tt))

-- what leaves by an output that there is: each arrival, once
copied-part : (outputs out p : ℕ) (x : Visit) (part : Emission → ℕ) (own : ℕ) → ((n : ℕ) → part (record { out = n; position = p; job = x.job; time = x.arrive }) ≡ own) → map part (stream_of out (copied outputs p x)) ≡ cond (ltb out outputs) (own ∷ []) []
copied-part zero out p x part own h = ap (λ b. cond b (own ∷ []) []) (none out)
  where
    none : (n : ℕ) → false ≡ ltb n 0
    none n = grind (arith, nat_tests)
copied-part (suc outputs) out p x part own h =
    ap (map part) (filter-append (λ (m : Emission). m.out == out) (copied outputs p x) (record { out = outputs; position = p; job = x.job; time = x.arrive } ∷ []))
    ∙ (map-append part (stream_of out (copied outputs p x)) (stream_of out (record { out = outputs; position = p; job = x.job; time = x.arrive } ∷ []))
    ∙ (ap (λ l. l ++ map part (stream_of out (record { out = outputs; position = p; job = x.job; time = x.arrive } ∷ []))) (copied-part outputs out p x part own h)
    ∙ go (eqb outputs out) refl))
  where
    go : (b : Bool) → eqb outputs out ≡ b → cond (ltb out outputs) (own ∷ []) [] ++ map part (cond b (record { out = outputs; position = p; job = x.job; time = x.arrive } ∷ []) []) ≡ cond (ltb out (suc outputs)) (own ∷ []) []
    go true e =
        let same = eqb-true outputs out e in
        let a : ltb out outputs ≡ false = below (eqb-true outputs out e) in
        let b : ltb out (suc outputs) ≡ true = within (eqb-true outputs out e) in
        rw a (rw b (ap (λ n. n ∷ []) (h outputs)))
      where
        below : outputs ≡ out → ltb out outputs ≡ false
        below q = grind (arith, nat_tests)

        within : outputs ≡ out → ltb out (suc outputs) ≡ true
        within q = grind (arith, nat_tests)
    go false e = append-nil (cond (ltb out outputs) (own ∷ []) []) ∙ ap (λ b. cond b (own ∷ []) []) (alike (λ q. let c = eq-eqb outputs out q in absurd cc))
      where
        alike : (outputs ≡ out → ⊥) → ltb out outputs ≡ ltb out (suc outputs)
        alike n = grind (arith, nat_tests)

copied_from-part : (outputs out k : ℕ) (xs : List Visit) (part : Emission → ℕ) (own : Visit → ℕ) → ((n p : ℕ) (x : Visit) → part (record { out = n; position = p; job = x.job; time = x.arrive }) ≡ own x) → map part (stream_of out (copied_from outputs k xs)) ≡ cond (ltb out outputs) (map own xs) []
copied_from-part outputs out k [] part own h = none (ltb out outputs)
  where
    none : (b : Bool) → ◌≡◌ {A = List ℕ} [] (cond b [] [])
    none true = refl
    none false = refl
copied_from-part outputs out k (x ∷ xs) part own h =
    ap (map part) (filter-append (λ (m : Emission). m.out == out) (copied outputs k x) (copied_from outputs (suc k) xs))
    ∙ (map-append part (stream_of out (copied outputs k x)) (stream_of out (copied_from outputs (suc k) xs))
    ∙ ((λ i. copied-part outputs out k x part (own x) (λ n. h n k x) i ++ copied_from-part outputs out (suc k) xs part own h i) ∙ all (ltb out outputs)))
  where
    all : (b : Bool) → cond b (own x ∷ []) [] ++ cond b (map own xs) [] ≡ cond b (own x ∷ map own xs) []
    all true = refl
    all false = refl

pub fork-parts : (outputs out : ℕ) (visits : List Visit) → (map (λ (m : Emission). m.job) (stream_of out (copied_from outputs 0 visits)) ≡ cond (ltb out outputs) (jobs_of visits) []) × (map (λ (m : Emission). m.time) (stream_of out (copied_from outputs 0 visits)) ≡ cond (ltb out outputs) (arrives_of visits) [])
fork-parts outputs out visits = (copied_from-part outputs out 0 visits (λ (m : Emission). m.job) (λ (x : Visit). x.job) (λ n p x. refl), copied_from-part outputs out 0 visits (λ (m : Emission). m.time) (λ (x : Visit). x.arrive) (λ n p x. refl))

-- the first copy of a visit, by its place
copied-get : (k : ℕ) (emitted : List Emission) (xs : List Visit) → CopiedAt k emitted xs → (i : ℕ) (x : Visit) → slice_get xs i ≡ Some x → (m : Emission) × (emission_at emitted (k + i) ≡ Some m) × (m.time ≡ x.arrive)
copied-get k emitted [] h i x e = absurd cc
copied-get k emitted (y ∷ ys) h zero x e =
    let same = some_inj y x e in
    let at : k + 0 ≡ k = omega arith in
    (h.0.0, ap (emission_at emitted) at ∙ h.0.1, h.0.2 ∙ ap (λ (v : Visit). v.arrive) same)
copied-get k emitted (y ∷ ys) h (suc i) x e =
    let r = copied-get (suc k) emitted ys h.1 i x e in
    let at : k + suc i ≡ suc k + i = omega arith in
    (r.0, ap (emission_at emitted) at ∙ r.1, r.2)

-- who comes earlier in the list comes no later
each-get : (low : ℕ) (ys : List Visit) (j : ℕ) (y : Visit) → Each (λ a. low ≤ a) (arrives_of ys) → slice_get ys j ≡ Some y → low ≤ y.arrive
each-get low [] j y h e = absurd cc
each-get low (z ∷ ys) zero y h e = subst (λ (v : Visit). low ≤ v.arrive) (some_inj z y e) h.0
each-get low (z ∷ ys) (suc j) y h e = each-get low ys j y h.1 e

pub rise-get : (xs : List Visit) (i j : ℕ) (x y : Visit) → Rises (λ a b. a ≤ b) (arrives_of xs) → i < j → slice_get xs i ≡ Some x → slice_get xs j ≡ Some y → x.arrive ≤ y.arrive
rise-get [] i j x y r l e f = absurd cc
rise-get (z ∷ xs) zero zero x y r l e f = absurd (omega arith)
rise-get (z ∷ xs) zero (suc j) x y r l e f = subst (λ (v : Visit). v.arrive ≤ y.arrive) (some_inj z x e) (each-get z.arrive xs j y r.0 f)
rise-get (z ∷ xs) (suc i) zero x y r l e f = absurd (omega arith)
rise-get (z ∷ xs) (suc i) (suc j) x y r l e f = rise-get xs i j x y r.1 (omega arith) e f

-- nobody is still there
none-there : (outputs : ℕ) (s : Station Local) → CopiedAt 0 s.emitted s.visits → Rises (λ a b. a ≤ b) (arrives_of s.visits) → (p : ℕ) → p < length s.visits → sum_below p (λ k. one_if_there (fork outputs).there (arrival_or 0 (slice_get s.visits p)) p (emission_at s.emitted k)) ≡ 0
none-there outputs s h rise p l =
    let y = get-some s.visits p l in
    sum-none p _ (λ k u.
    let x = get-some s.visits k (omega arith) in
    let m = copied-get 0 s.emitted s.visits h k x.0 x.1 in
    let at : 0 + k ≡ k = omega arith in
    let early = rise-get s.visits k p x.0 y.0 rise u x.1 y.1 in
    let time = m.2 in
    ap (one_if_there (fork outputs).there (arrival_or 0 (slice_get s.visits p)) p) (ap (emission_at s.emitted) (sym at) ∙ m.1)
    ∙ (ap (λ o. cond {A = ℕ} (nat_lt (arrival_or 0 o) (m.0).time) 1 0) y.1 ∙ past (y.0).arrive (m.0).time (omega arith)))
  where
    past : (a t : ℕ) → t ≤ a → ◌≡◌ {A = ℕ} (cond (nat_lt a t) 1 0) 0
    past a t u = grind (arith, nat_tests)

-- nor by the recurrence
zeros-from : (before : List Fate) (xs : List Visit) → Rises (λ a b. a ≤ b) (arrives_of xs) → ((k : ℕ) (x : Visit) → slice_get xs k ≡ Some x → count_by (departs_after x.arrive) before ≡ 0) →
    ((k : ℕ) (x : Visit) → slice_get xs k ≡ Some x → x.found ≡ 0) → map (λ (x : Visit). x.found) xs ≡ founds_from before (arrives_of xs) (map (λ time. Departs time) (arrives_of xs))
zeros-from before [] rise none found = refl
zeros-from before (x ∷ xs) rise none found =
    let one : x.found ≡ count_by (departs_after x.arrive) before = found 0 x refl ∙ sym (none 0 x refl) in
    let more = zeros-from (before ++ Departs x.arrive ∷ []) xs rise.1 (λ k y e.
    let a = count-push (departs_after y.arrive) before (Departs x.arrive) in
    let b = none (suc k) y e in
    let c = past y.arrive x.arrive (each-get x.arrive xs k y rise.0 e) in
    omega arith) (λ k y e. found (suc k) y e) in
    λ i. one i ∷ more i
  where
    past : (a t : ℕ) → t ≤ a → ◌≡◌ {A = ℕ} (cond (departs_after a (Departs t)) 1 0) 0
    past a t l = grind (arith, nat_tests)

pub fork-finds : (outputs : ℕ) (s : Station Local) → 1 ≤ outputs → s.emitted ≡ copied_from outputs 0 s.visits → Rises (λ a b. a ≤ b) (arrives_of s.visits) →
    ((p : ℕ) → p < length s.visits → found_or 0 (slice_get s.visits p) ≡ sum_below p (λ k. one_if_there (fork outputs).there (arrival_or 0 (slice_get s.visits p)) p (emission_at s.emitted k))) →
    map (λ (x : Visit). x.found) s.visits ≡ founds_of (arrives_of s.visits) (map (λ time. Departs time) (arrives_of s.visits))
fork-finds zero s l left rise found = absurd (omega arith)
fork-finds (suc outputs) s l left rise found =
    let copied = subst (λ e. CopiedAt 0 e s.visits) (sym left) (copied-each outputs 0 [] s.visits tt) in
    zeros-from [] s.visits rise (λ k x e. refl) (λ k x e. ap (found_or 0) (sym e) ∙ (found k (slice_get_within s.visits k x e) ∙ none-there (suc outputs) s copied rise k (slice_get_within s.visits k x e)))
