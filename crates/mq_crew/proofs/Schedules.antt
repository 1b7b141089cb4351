-- What the workers of a crew drew and made is what a schedule of the machine reaches.
use Rattle.std.proofs.Common.{◌≡◌, ◌≢◌, ◌⊎◌, ℕ, zero, suc, ◌+◌, ◌-◌, ◌<◌, ◌≤◌, nat_lt, cond, List, [], ◌∷◌, ◌++◌, length, map, get_or, refl, sym, ap, ◌∙◌, subst, inl, inr, ⊎_elim, arith, All, Contains, length-append, if◌then◌else◌, ◌==◌, Result, Ok, Err, IfOk}
use Rattle.std.specs.List.{AllByRecursion, flat_map}
use Rattle.std.proofs.lemmas.Bool.Decides.{nat_tests}
use Rattle.std.proofs.lemmas.List.{append-nil}
use Rattle.std.proofs.lemmas.List.Elements.{Contains-append_cases, Contains-append_left, Contains-append_right}
use Rattle.std.proofs.lemmas.Grind.{flat_map-append}
use mathlib.Core.Logic.{dite}
use native.Mathlib.Decide.{dec_le}
use Rattle.mq_base.proofs.lemmas.Lists.{only}
use Rattle.mq_claims.specs.Counts.{times, once_below, IsAllBelow}
use Rattle.mq_claims.specs.Machine.{Worker, worker, indices, Name, Reached, starts, draws, puts}
use Rattle.mq_claims.proofs.Ends.{index-of, nowhere}
use Rattle.mq_claims.proofs.Weighs.{weigh-append, times-of, times-there, once-lt, once-le}
use Rattle.mq_crew.specs.Crew.{Rise, HasWorked, AreWorked, AreRecorded}
use Rattle.mq_crew.proofs.Working.{lt-true, lt-false}

behind : {A : Type 0} (y : A) (xs : List A) (x : A) → Contains xs x → Contains (y ∷ xs) x
behind y xs x (k, lt, e) = (suc k, omega arith, e)

every : (P : ℕ → Type 0) (ys : List ℕ) → AllByRecursion P ys → (y : ℕ) → Contains ys y → P y
every P [] h y c = absurd (nowhere y c)
every P (z ∷ ys) h y (zero, lt, e) = subst P e h.0
every P (z ∷ ys) h y (suc k, lt, e) = every P ys h.1 y (k, omega arith, e)

module _ {A : Type 0} (key : A → ℕ) where
  -- those before the first whose key is at least n
  abbrev until : ℕ → List A → List A
  until n [] = []
  until n (x ∷ xs) = cond (nat_lt (key x) n) (x ∷ until n xs) []

  until-in : (n : ℕ) (x : A) (xs : List A) → key x < n → until n (x ∷ xs) ≡ x ∷ until n xs
  until-in n x xs lt = rw (lt-true (key x) n lt) refl

  until-out : (n : ℕ) (x : A) (xs : List A) → n ≤ key x → until n (x ∷ xs) ≡ []
  until-out n x xs le = rw (lt-false (key x) n le) refl

  until-none : (xs : List A) → until 0 xs ≡ []
  until-none [] = refl
  until-none (x ∷ xs) = until-out 0 x xs (omega arith)

  until-other : (n : ℕ) (xs : List A) → (Contains (map key xs) n → ⊥) → until (n + 1) xs ≡ until n xs
  until-other n [] absent = refl
  until-other n (x ∷ xs) absent = dite (dec_le (suc (key x)) n)
      (λ lt. until-in (n + 1) x xs (omega arith) ∙ (ap (λ ys. x ∷ ys) (until-other n xs (λ c. absent (behind (key x) (map key xs) n c))) ∙ sym (until-in n x xs (omega arith))))
      (λ ge. let ne : key x ≢ n = λ e. absent (0, omega arith, e) in until-out (n + 1) x xs (omega arith) ∙ sym (until-out n x xs (omega arith)))

  until-past : (n : ℕ) (xs : List A) → AllByRecursion (λ k. n < k) (map key xs) → until (n + 1) xs ≡ []
  until-past n [] h = refl
  until-past n (x ∷ xs) h = let first = h.0 in until-out (n + 1) x xs (omega arith)

  until-own : (n : ℕ) (xs : List A) → Rise (map key xs) → Contains (map key xs) n → (x : A) × (key x ≡ n) × (until (n + 1) xs ≡ until n xs ++ x ∷ [])
  until-own n [] rise c = absurd (nowhere n c)
  until-own n (x ∷ xs) rise (zero, lt, e) =
      (x, e, until-in (n + 1) x xs (omega arith) ∙ (ap (λ ys. x ∷ ys) (until-past n xs (subst (λ (k : ℕ). AllByRecursion (λ y. k < y) (map key xs)) e rise.0)) ∙ ap (λ ys. ys ++ x ∷ []) (sym (until-out n x xs (omega arith)))))
  until-own n (x ∷ xs) rise (suc k, lt, e) =
      let below : key x < n = every (λ y. key x < y) (map key xs) rise.0 n (k, omega arith, e) in
      let r = until-own n xs rise.1 (k, omega arith, e) in
      (r.0, r.1, until-in (n + 1) x xs (omega arith) ∙ (ap (λ ys. x ∷ ys) r.2 ∙ ap (λ ys. ys ++ r.0 ∷ []) (sym (until-in n x xs below))))

  until-whole : (n : ℕ) (xs : List A) → ((y : ℕ) → Contains (map key xs) y → y < n) → until n xs ≡ xs
  until-whole n [] h = refl
  until-whole n (x ∷ xs) h = until-in n x xs (h (key x) (0, omega arith, refl)) ∙ ap (λ ys. x ∷ ys) (until-whole n xs (λ y c. h y (behind (key x) (map key xs) y c)))

abbrev same : ℕ → ℕ
same x = x

map-same : (xs : List ℕ) → map same xs ≡ xs
map-same [] = refl
map-same (x ∷ xs) = ap (λ ys. x ∷ ys) (map-same xs)

rise-front : (xs ys : List ℕ) → Rise (xs ++ ys) → Rise xs
rise-front [] ys r = tt
rise-front (x ∷ xs) ys r = (front (λ y. x < y) xs ys r.0, rise-front xs ys r.1)
  where
    front : (P : ℕ → Type 0) (xs ys : List ℕ) → AllByRecursion P (xs ++ ys) → AllByRecursion P xs
    front P [] ys h = tt
    front P (x ∷ xs) ys h = (h.0, front P xs ys h.1)

-- numbers that rise and one above them rise
pub rise-more : (xs : List ℕ) (n : ℕ) → Rise xs → All (λ d. d < n) xs → Rise (xs ++ n ∷ [])
rise-more [] n r above = (tt, tt)
rise-more (x ∷ xs) n r above = (more (λ y. x < y) xs n r.0 (above 0 0 (omega arith)), rise-more xs n r.1 (λ k d lt. above (suc k) d (omega arith)))
  where
    more : (P : ℕ → Type 0) (xs : List ℕ) (n : ℕ) → AllByRecursion P xs → P n → AllByRecursion P (xs ++ n ∷ [])
    more P [] n h p = (p, tt)
    more P (x ∷ xs) n h p = (h.0, more P xs n h.1 p)

pub by-recursion : (P : ℕ → Type 0) (xs : List ℕ) → All P xs → AllByRecursion P xs
by-recursion P [] h = tt
by-recursion P (x ∷ xs) h = (h 0 0 (omega arith), by-recursion P xs (λ k d lt. h (suc k) d (omega arith)))

until-last : (n late : ℕ) (xs : List ℕ) → n ≤ late → until same n (xs ++ late ∷ []) ≡ until same n xs
until-last n late [] le = until-out same n late [] le
until-last n late (x ∷ xs) le = dite (dec_le (suc x) n)
    (λ lt. until-in same n x (xs ++ late ∷ []) (omega arith) ∙ (ap (λ ys. x ∷ ys) (until-last n late xs le) ∙ sym (until-in same n x xs (omega arith))))
    (λ ge. until-out same n x (xs ++ late ∷ []) (omega arith) ∙ sym (until-out same n x xs (omega arith)))

until-every : (n count : ℕ) (xs : List ℕ) → AllByRecursion (λ d. d < count) xs → All (λ d. d < count) (until same n xs)
until-every n count [] h = λ k d lt. absurd (omega arith)
until-every n count (x ∷ xs) h = dite (dec_le (suc x) n)
    (λ lt. subst (All (λ d. d < count)) (sym (until-in same n x xs (omega arith))) (both (until same n xs) h.0 (until-every n count xs h.1)))
    (λ ge. subst (All (λ d. d < count)) (sym (until-out same n x xs (omega arith))) (λ k d lt. absurd (omega arith)))
  where
    both : (ys : List ℕ) → x < count → All (λ d. d < count) ys → All (λ d. d < count) (x ∷ ys)
    both ys first rest zero d lt = first
    both ys first rest (suc k) d lt = rest k d (omega arith)

module _ {X : Type 0} where
  abbrev fst : ℕ × X → ℕ
  fst p = p.0

  abbrev none : Worker X
  none = worker [] []

  until-indices : (n : ℕ) (done : List (ℕ × X)) → indices (until fst n done) ≡ until same n (indices done)
  until-indices n [] = refl
  until-indices n (p ∷ done) = dite (dec_le (suc p.0) n)
      (λ lt. ap indices (until-in fst n p done (omega arith)) ∙ (ap (λ ys. p.0 ∷ ys) (until-indices n done) ∙ sym (until-in same n p.0 (indices done) (omega arith))))
      (λ ge. ap indices (until-out fst n p done (omega arith)) ∙ sym (until-out same n p.0 (indices done) (omega arith)))

  -- a worker by its name: those of the list are named one after the other
  abbrev at : List (Worker X) → Name → Worker X
  at ws (zero, j) = get_or ws j none
  at ws (suc i, j) = none

  abbrev draws-of : Worker X → List ℕ
  draws-of w = w.draws

  -- the first worker who drew a number
  holder : (x : ℕ) (ws : List (Worker X)) → 1 ≤ times x (flat_map draws-of ws) → (j : ℕ) × (j < length ws) × (1 ≤ times x (get_or ws j none).draws)
  holder x [] h = absurd (omega arith)
  holder x (w ∷ ws) h =
      let both = weigh-append (λ y. if y == x then 1 else 0) w.draws (flat_map draws-of ws) in
      dite (dec_le 1 (times x w.draws)) (λ yes. (0, omega arith, yes)) (λ no. let r = holder x ws (omega arith) in (suc r.0, omega (arith, r.1), r.2))

  le-at : (x : ℕ) (ws : List (Worker X)) (j : ℕ) → times x (get_or ws j none).draws ≤ times x (flat_map draws-of ws)
  le-at x [] j = omega arith
  le-at x (w ∷ ws) zero = let both = weigh-append (λ y. if y == x then 1 else 0) w.draws (flat_map draws-of ws) in omega arith
  le-at x (w ∷ ws) (suc j) = let both = weigh-append (λ y. if y == x then 1 else 0) w.draws (flat_map draws-of ws) in let rest = le-at x ws j in omega arith

  alone : (x : ℕ) (ws : List (Worker X)) → times x (flat_map draws-of ws) ≤ 1 → (i j : ℕ) → 1 ≤ times x (get_or ws i none).draws → 1 ≤ times x (get_or ws j none).draws → i ≡ j
  alone x [] few i j a b = absurd (omega arith)
  alone x (w ∷ ws) few zero zero a b = refl
  alone x (w ∷ ws) few zero (suc j) a b = let both = weigh-append (λ y. if y == x then 1 else 0) w.draws (flat_map draws-of ws) in let rest = le-at x ws j in absurd (omega arith)
  alone x (w ∷ ws) few (suc i) zero a b = let both = weigh-append (λ y. if y == x then 1 else 0) w.draws (flat_map draws-of ws) in let rest = le-at x ws i in absurd (omega arith)
  alone x (w ∷ ws) few (suc i) (suc j) a b = let both = weigh-append (λ y. if y == x then 1 else 0) w.draws (flat_map draws-of ws) in ap suc (alone x ws (omega arith) i j a b)

  done-in : (ws : List (Worker X)) (a : ℕ × X) → Contains (flat_map (λ w. w.done) ws) a → (j : ℕ) × (j < length ws) × Contains (get_or ws j none).done a
  done-in [] a c = absurd (nowhere a c)
  done-in (w ∷ ws) a c = ⊎_elim (λ l. (0, omega arith, l)) (λ r. let d = done-in ws a r in (suc d.0, omega (arith, d.1), d.2)) (Contains-append_cases w.done (flat_map (λ w. w.done) ws) a c)

  module _ (count : ℕ) where
    good-at : (ws : List (Worker X)) → AllByRecursion (HasWorked count) ws → (u : Name) → (HasWorked count (at ws u) × (u.0 ≡ 0) × (u.1 < length ws)) ⊎ (at ws u ≡ none)
    good-at ws h (suc i, j) = inr refl
    good-at [] h (zero, j) = inr refl
    good-at (w ∷ ws) h (zero, zero) = inl (h.0, refl, omega arith)
    good-at (w ∷ ws) h (zero, suc j) = ⊎_elim (λ (l : HasWorked count (at ws (zero, j)) × (0 ≡ 0) × (j < length ws)). inl (l.0, refl, omega (arith, l.2))) (λ r. inr r) (good-at ws h.1 (zero, j))

    done-drawn : (w : Worker X) → HasWorked count w → (x : ℕ) → Contains (indices w.done) x → Contains w.draws x
    done-drawn w h x c = subst (λ (l : List ℕ). Contains l x) (sym h.drew) (Contains-append_left (indices w.done) (h.late ∷ []) x c)

    drawn-done : (w : Worker X) → (h : HasWorked count w) → (x : ℕ) → Contains w.draws x → Contains (indices w.done) x ⊎ (x ≡ h.late)
    drawn-done w h x c = ⊎_elim (λ l. inl l) (λ r. inr (only h.late x r)) (Contains-append_cases (indices w.done) (h.late ∷ []) x (subst (λ (l : List ℕ). Contains l x) h.drew c))

    module _ (ws : List (Worker X)) (each : AllByRecursion (HasWorked count) ws) (all : IsAllBelow (flat_map draws-of ws)) where
      abbrev next : ℕ
      next = length (flat_map draws-of ws)

      -- what the workers drew and recorded of the numbers below n
      abbrev state : ℕ → Name → Worker X
      state n u = worker (until same n (at ws u).draws) (until fst n (at ws u).done)

      few-times : (x : ℕ) → times x (flat_map draws-of ws) ≤ 1
      few-times x = let e = all x in let o = once-le x next in omega arith

      who : (n : ℕ) → n < next → (j : ℕ) × (j < length ws) × (1 ≤ times n (get_or ws j none).draws)
      who n lt = holder n ws (let e = all n in let o = once-yes n next lt in omega arith)
        where
          once-yes : (x n : ℕ) → x < n → once_below x n ≡ 1
          once-yes x n lt = grind (arith, nat_tests)

      only-holder : (n j : ℕ) → 1 ≤ times n (get_or ws j none).draws → (u : Name) → Contains (at ws u).draws n → u ≡ (0, j)
      only-holder n j has (zero, i) c = let e = alone n ws (few-times n) i j (times-of (get_or ws i none).draws n c) has in λ k. (0, e k)
      only-holder n j has (suc k, i) c = absurd (nowhere n c)

      done-of : (u : Name) (x : ℕ) → Contains (indices (at ws u).done) x → Contains (at ws u).draws x
      done-of u x c = ⊎_elim (λ (l : HasWorked count (at ws u) × (u.0 ≡ 0) × (u.1 < length ws)). done-drawn (at ws u) l.0 x c)
          (λ (e : at ws u ≡ none). absurd (nowhere x (subst (λ (z : Worker X). Contains (indices z.done) x) e c))) (good-at ws each u)

      done-early : (u : Name) (x : ℕ) → Contains (indices (at ws u).done) x → x < count
      done-early u x c = ⊎_elim (λ (l : HasWorked count (at ws u) × (u.0 ≡ 0) × (u.1 < length ws)). every (λ d. d < count) (indices (at ws u).done) l.0.early x c)
          (λ (e : at ws u ≡ none). absurd (nowhere x (subst (λ (z : Worker X). Contains (indices z.done) x) e c))) (good-at ws each u)

      -- the worker who drew a number draws it, and records its piece where it is below the count
      step-of : (n j : ℕ) → 1 ≤ times n (get_or ws j none).draws → (h : HasWorked count (get_or ws j none)) → Contains (get_or ws j none).draws n → Reached count n (state n) → Reached count (n + 1) (state (n + 1))
      step-of n j has h drew before = dite (dec_le (suc n) count) put not-put
        where
          mine : Worker X
          mine = get_or ws j none

          own : until same (n + 1) mine.draws ≡ until same n mine.draws ++ n ∷ []
          own =
              let r = until-own same n mine.draws (subst Rise (sym (map-same mine.draws)) h.rise) (subst (λ (l : List ℕ). Contains l n) (sym (map-same mine.draws)) drew) in
              r.2 ∙ ap (λ (k : ℕ). until same n mine.draws ++ k ∷ []) r.1

          not_past : n ≤ h.late
          not_past = ⊎_elim (λ (l : Contains (indices mine.done) n). let e = every (λ d. d < count) (indices mine.done) h.early n l in let p = h.past in omega arith) (λ (e : n ≡ h.late). omega arith) (drawn-done mine h n drew)

          recorded : indices (until fst n mine.done) ≡ until same n mine.draws
          recorded = until-indices n mine.done ∙ (sym (until-last n h.late (indices mine.done) not_past) ∙ ap (until same n) (sym h.drew))

          early : All (λ d. d < count) (until same n mine.draws)
          early = subst (All (λ d. d < count)) (sym (until-indices n mine.done) ∙ recorded) (until-every n count (indices mine.done) h.early)

          g : Name → Worker X
          g u = worker (until same (n + 1) (at ws u).draws) (until fst n (at ws u).done)

          drawn : Reached count (n + 1) g
          drawn = draws n (state n) g (0, j) before recorded early (λ i. worker (own i) (until fst n mine.done))
              (λ u ne i. worker (until-other same n (at ws u).draws (λ c. ne (only-holder n j has u (subst (λ (l : List ℕ). Contains l n) (map-same (at ws u).draws) c))) i) (until fst n (at ws u).done))

          put : suc n ≤ count → Reached count (n + 1) (state (n + 1))
          put lt =
              let there : Contains (indices mine.done) n = ⊎_elim (λ l. l) (λ (e : n ≡ h.late). let p = h.past in absurd (omega arith)) (drawn-done mine h n drew) in
              let piece = until-own fst n mine.done (rise-front (indices mine.done) (h.late ∷ []) (subst Rise h.drew h.rise)) there in
              let more : until fst (n + 1) mine.done ≡ until fst n mine.done ++ (n, piece.0.1) ∷ [] = piece.2 ∙ ap (λ (q : ℕ × X). until fst n mine.done ++ q ∷ []) (λ k. (piece.1 k, piece.0.1)) in
              puts (n + 1) n piece.0.1 g (state (n + 1)) (0, j) drawn (own ∙ ap (λ xs. xs ++ n ∷ []) (sym recorded)) (omega arith) (λ i. worker (until same (n + 1) mine.draws) (more i))
              (λ u ne i. worker (until same (n + 1) (at ws u).draws) (until-other fst n (at ws u).done (λ c. ne (only-holder n j has u (done-of u n c))) i))

          not-put : ¬ (suc n ≤ count) → Reached count (n + 1) (state (n + 1))
          not-put past = subst (Reached count (n + 1)) (λ i u. worker (until same (n + 1) (at ws u).draws) (sym (until-other fst n (at ws u).done (λ c. let e = done-early u n c in past (omega arith))) i)) drawn

      reach : (n : ℕ) → n ≤ next → Reached count n (state n)
      reach zero le = starts (state zero) (λ u i. worker (until-none same (at ws u).draws i) (until-none fst (at ws u).done i))
      reach (suc n) le =
          let by = who n (omega arith) in
          let drew = times-there (get_or ws by.0 none).draws n by.2 in
          let h : HasWorked count (get_or ws by.0 none) = ⊎_elim (λ (l : HasWorked count (get_or ws by.0 none) × (0 ≡ 0) × (by.0 < length ws)). l.0)
          (λ (e : get_or ws by.0 none ≡ none). absurd (nowhere n (subst (λ (z : Worker X). Contains z.draws n) e drew))) (good-at ws each (0, by.0)) in
          subst (λ (k : ℕ). Reached count k (state k)) {x = n + 1} {y = suc n} (omega arith) (step-of n by.0 by.2 h drew (reach n (omega arith)))

      below : (u : Name) (x : ℕ) → Contains (at ws u).draws x → x < next
      below (zero, i) x c = let t = times-of (get_or ws i none).draws x c in let l = le-at x ws i in let e = all x in once-lt x next (omega arith)
      below (suc k, i) x c = absurd (nowhere x c)

      whole : (u : Name) → state next u ≡ at ws u
      whole u i = worker (until-whole same next (at ws u).draws (λ y c. below u y (subst (λ (l : List ℕ). Contains l y) (map-same (at ws u).draws) c)) i)
          (until-whole fst next (at ws u).done (λ y c. below u y (done-of u y c)) i)

      reached : Reached count next (at ws)
      reached = subst (Reached count next) (λ i u. whole u i) (reach next (omega arith))

      pub recorded : (most : ℕ) (items : List X) → 1 ≤ length ws → length ws ≤ most → length ws ≤ count - 1 + 1 → ((x : ℕ) (d : X) → x < count → Contains (flat_map (λ w. w.done) ws) (x, get_or items x d)) → AreRecorded most count items
      recorded most items some many fewer own = record {
        next = next;
        state = at ws;
        reached = reached;
        some = ((0, 0), first ws each some);
        ended = λ u ne. ⊎_elim (λ (l : HasWorked count (at ws u) × (u.0 ≡ 0) × (u.1 < length ws)). (l.0.late, late-drawn (at ws u) l.0, l.0.past)) (λ (e : at ws u ≡ none). absurd (ne (ap draws-of e))) (good-at ws each u);
        few = λ u ne. ⊎_elim (λ (l : HasWorked count (at ws u) × (u.0 ≡ 0) × (u.1 < length ws)). (l.1, omega (arith, l.2, many), omega (arith, l.2, fewer))) (λ (e : at ws u ≡ none). absurd (ne (ap draws-of e))) (good-at ws each u);
        each = λ x d lt.
            let at_one = done-in ws (x, get_or items x d) (own x d lt) in
            ((0, at_one.0), done-of (0, at_one.0) x (index-of (get_or ws at_one.0 none).done x (get_or items x d) at_one.2), at_one.2);
      }
        where
          late-drawn : (w : Worker X) → (h : HasWorked count w) → Contains w.draws h.late
          late-drawn w h = subst (λ (l : List ℕ). Contains l h.late) (sym h.drew) (Contains-append_right (indices w.done) (h.late ∷ []) h.late (0, omega arith, refl))

          first : (vs : List (Worker X)) → AllByRecursion (HasWorked count) vs → 1 ≤ length vs → (at vs (0, 0)).draws ≢ []
          first [] h some = absurd (omega arith)
          first (w ∷ vs) h some = λ e. nowhere h.0.late (subst (λ (l : List ℕ). Contains l h.0.late) e (late-drawn w h.0))

    -- one worker who has ended
    pub one-worked : (ds : List ℕ) (made : List (ℕ × X)) (n : ℕ) → indices made ≡ ds → All (λ d. d < count) ds → Rise ds → All (λ d. d < n) ds → count ≤ n → AreWorked count 1 (ds ++ n ∷ []) made
    one-worked ds made n numbers early rise above past = record {
      workers = worker (ds ++ n ∷ []) made ∷ [];
      many_are = refl;
      draws_are = append-nil (ds ++ n ∷ []);
      made_are = append-nil made;
      each = (
        record {
          late = n;
          drew = ap (λ xs. xs ++ n ∷ []) (sym numbers);
          past = past;
          early = subst (AllByRecursion (λ d. d < count)) (sym numbers) (by-recursion (λ d. d < count) ds early);
          rise = rise-more ds n rise above;
        },
        tt,
      );
    }

    -- the workers of two crews
    pub both-worked : (k l m : ℕ) (ds es : List ℕ) (xs ys : List (ℕ × X)) → k + l ≡ m → AreWorked count k ds xs → AreWorked count l es ys → AreWorked count m (ds ++ es) (xs ++ ys)
    both-worked k l m ds es xs ys sum a b = record {
      workers = a.workers ++ b.workers;
      many_are = omega (arith, length-append a.workers b.workers, a.many_are, b.many_are, sum);
      draws_are = flat_map-append (λ (w : Worker X). w.draws) a.workers b.workers ∙ (λ i. a.draws_are i ++ b.draws_are i);
      made_are = flat_map-append (λ (w : Worker X). w.done) a.workers b.workers ∙ (λ i. a.made_are i ++ b.made_are i);
      each = both a.workers b.workers a.each b.each;
    }
      where
        both : (vs ws : List (Worker X)) → AllByRecursion (HasWorked count) vs → AllByRecursion (HasWorked count) ws → AllByRecursion (HasWorked count) (vs ++ ws)
        both [] ws h g = g
        both (v ∷ vs) ws h g = (h.0, both vs ws h.1 g)

    -- where the draws of a crew are all numbers up to the last, what is placed at the indices was recorded
    pub all-recorded : {E : Type 0} (most many : ℕ) (ds : List ℕ) (made : List (ℕ × X)) (r : Result (List X) E) → 1 ≤ many → many ≤ most → many ≤ count - 1 + 1 → AreWorked count many ds made → IsAllBelow ds
        → IfOk r (λ l. (x : ℕ) (d : X) → x < count → Contains made (x, get_or l x d)) → IfOk r (λ l. AreRecorded most count l)
    all-recorded most many ds made (Err e) some few fewer w all own = tt
    all-recorded most many ds made (Ok l) some few fewer w all own =
        recorded w.workers w.each (subst IsAllBelow (sym w.draws_are) all) most l (omega (arith, some, w.many_are)) (omega (arith, few, w.many_are)) (omega (arith, fewer, w.many_are))
        (λ x d lt. subst (λ (ps : List (ℕ × X)). Contains ps (x, get_or l x d)) (sym w.made_are) (own x d lt))
