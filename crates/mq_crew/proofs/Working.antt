-- What one worker keeps as it draws, and what two that are joined have together.
use Rattle.std.proofs.Common.{◌≡◌, ℕ, zero, suc, ◌<◌, ◌≤◌, Bool, true, false, nat_lt, nat_le, nat_eq, cond, List, [], ◌∷◌, ◌++◌, length, filter, get_or, refl, sym, ap, ◌∙◌, subst, arith, All, Contains, length-append, if◌then◌else◌, Result, Ok, Err, IfOk, IsOkAnd}
use Rattle.std.proofs.lemmas.Bool.Decides.{nat_tests}
use Rattle.std.proofs.lemmas.List.{map-append, length-map}
use Rattle.std.proofs.lemmas.List.Elements.{All-append, All-push, All-contains, All-cons, filter-append, Contains-append_right}
use Rattle.mq_claims.specs.Counts.{late, times, IsAllBelow}
use Rattle.mq_claims.proofs.Weighs.{weigh-append, times-there, once-lt}
use Rattle.mq_crew.specs.Crew.{numbers, IsMadeOf, AreAll}

pub lt-true : (d n : ℕ) → d < n → nat_lt d n ≡ true
lt-true d n h = grind (arith, nat_tests)

pub lt-false : (d n : ℕ) → n ≤ d → nat_lt d n ≡ false
lt-false d n h = grind (arith, nat_tests)

pub filter-whole : (count : ℕ) (ds : List ℕ) → All (λ d. d < count) ds → filter (λ d. nat_lt d count) ds ≡ ds
filter-whole count [] h = refl
filter-whole count (d ∷ ds) h = rw (lt-true d count (h 0 0 (omega arith))) (ap (λ xs. d ∷ xs) (filter-whole count ds (λ k e lt. h (suc k) e (omega arith))))

kept-filter : (p : ℕ → Bool) (d : ℕ) (ds : List ℕ) (x : ℕ) → p x ≡ true → (b : Bool) → p d ≡ b → 1 ≤ times x (d ∷ ds) → (1 ≤ times x ds → 1 ≤ times x (filter p ds)) → 1 ≤ times x (cond b (d ∷ filter p ds) (filter p ds))
kept-filter p d ds x is true pd h rest = first_or (nat_eq d x) refl
  where
    first_or : (e : Bool) → nat_eq d x ≡ e → 1 ≤ times x (d ∷ filter p ds)
    first_or true e = rw e (omega arith)
    first_or false e = let h' = rw e at h in rw e (let r = rest (omega arith) in omega arith)
kept-filter p d ds x is false pd h rest = other (nat_eq d x) refl
  where
    other : (e : Bool) → nat_eq d x ≡ e → 1 ≤ times x (filter p ds)
    other true e = let same : d ≡ x = grind (arith, nat_tests) in absurd (cc (ap p same, pd, is))
    other false e = let h' = rw e at h in rest (omega arith)

kept-times : (p : ℕ → Bool) (ds : List ℕ) (x : ℕ) → p x ≡ true → 1 ≤ times x ds → 1 ≤ times x (filter p ds)
kept-times p [] x is h = h
kept-times p (d ∷ ds) x is h = kept-filter p d ds x is (p d) refl h (kept-times p ds x is)

times-cons : (x d : ℕ) (ds : List ℕ) → 1 ≤ times x ds → 1 ≤ times x (d ∷ ds)
times-cons x d ds h = omega arith

late-first : (count d : ℕ) (ds : List ℕ) (b : Bool) → nat_le count d ≡ b → 1 ≤ late count (d ∷ ds) → (1 ≤ late count ds → (x : ℕ) × (count ≤ x) × (1 ≤ times x ds)) → (x : ℕ) × (count ≤ x) × (1 ≤ times x (d ∷ ds))
late-first count d ds true e h rest = (d, grind (arith, nat_tests), grind (arith, nat_tests))
late-first count d ds false e h rest = let h' = rw e at h in let r = rest (omega arith) in (r.0, r.1, times-cons r.0 d ds r.2)

late-some : (count : ℕ) (ds : List ℕ) → 1 ≤ late count ds → (x : ℕ) × (count ≤ x) × (1 ≤ times x ds)
late-some count [] h = absurd (omega arith)
late-some count (d ∷ ds) h = late-first count d ds (nat_le count d) refl h (late-some count ds)

All-cond : (P : ℕ → Type 0) (d : ℕ) (ds : List ℕ) (b : Bool) → (b ≡ true → P d) → All P ds → All P (cond b (d ∷ ds) ds)
All-cond P d ds true h r = All-cons P d ds (h refl) r
All-cond P d ds false h r = r

All-filter-self : (p : ℕ → Bool) (P : ℕ → Type 0) → ((z : ℕ) → p z ≡ true → P z) → (xs : List ℕ) → All P (filter p xs)
All-filter-self p P h [] = λ k d lt. absurd (omega arith)
All-filter-self p P h (x ∷ xs) = All-cond P x (filter p xs) (p x) (h x) (All-filter-self p P h xs)

-- what holds of the draws and the lists of two halves, where the lists of both were put together
pub both-ok : {V E X : Type 0} (items : V → List (ℕ × X)) (P Q R : List ℕ → List (ℕ × X) → Type 0) (first second r : Result V E) (ds es cs : List ℕ) → cs ≡ ds ++ es
    → IfOk r (λ v. IsOkAnd first (λ a. IsOkAnd second (λ b. items v ≡ items a ++ items b))) → ((xs ys : List (ℕ × X)) → P ds xs → Q es ys → R (ds ++ es) (xs ++ ys))
    → IfOk first (λ v. P ds (items v)) → IfOk second (λ v. Q es (items v)) → IfOk r (λ v. R cs (items v))
both-ok items P Q R first second (Err e) ds es cs all put both a b = tt
both-ok items P Q R (Err e) second (Ok v) ds es cs all put both a b = absurd put
both-ok items P Q R (Ok x) (Err e) (Ok v) ds es cs all put both a b = absurd put
both-ok {X = X} items P Q R (Ok x) (Ok y) (Ok v) ds es cs all put both a b =
    subst (λ (z : List ℕ × List (ℕ × X)). R z.0 z.1) (λ i. (sym all i, sym put i)) (both (items x) (items y) a b)

module _ {X : Type 0} (is_piece : ℕ → X → Type 0) (count : ℕ) where
  pub record IsWorking (draws : List ℕ) (made : List (ℕ × X)) : Type 0 where
    pub each : numbers made ≡ draws
    pub pieces : All (λ p. is_piece p.0 p.1) made
    pub early : All (λ d. d < count) draws
    -- what is above all draws is at least their number, since they rise
    pub long : (m : ℕ) → All (λ d. d < m) draws → length draws ≤ m

  pub works-more : (ds : List ℕ) (made : List (ℕ × X)) (n : ℕ) (p : X) → IsWorking ds made → All (λ d. d < n) ds → n < count → is_piece n p → IsWorking (ds ++ n ∷ []) (made ++ (n, p) ∷ [])
  works-more ds made n p w above less is = record {
    each = map-append (λ (q : ℕ × X). q.0) made ((n, p) ∷ []) ∙ ap (λ xs. xs ++ n ∷ []) w.each;
    pieces = All-push (λ (q : ℕ × X). is_piece q.0 q.1) made (n, p) w.pieces is;
    early = All-push (λ d. d < count) ds n w.early less;
    long = λ m h.
        let last : n < m = All-contains (λ d. d < m) (ds ++ n ∷ []) n h (Contains-append_right ds (n ∷ []) n (0, omega arith, refl)) in
        let all = w.long n above in
        omega (arith, length-append ds (n ∷ []));
  }

  pub works-ended : (ds : List ℕ) (made : List (ℕ × X)) (n : ℕ) → IsWorking ds made → count ≤ n → IsMadeOf is_piece count (ds ++ n ∷ []) made
  works-ended ds made n w past = record {
    each = w.each ∙ sym (filter-append (λ d. nat_lt d count) ds (n ∷ []) ∙ (ap (λ xs. xs ++ filter (λ d. nat_lt d count) (n ∷ [])) (filter-whole count ds w.early) ∙ rw (lt-false n count past) (append-none ds)));
    pieces = w.pieces;
    ended = let a = weigh-append (λ y. if nat_le count y then 1 else 0) ds (n ∷ []) in grind (arith, nat_tests);
  }
    where
      append-none : (xs : List ℕ) → xs ++ [] ≡ xs
      append-none [] = refl
      append-none (x ∷ xs) = ap (λ ys. x ∷ ys) (append-none xs)

  pub made-both : (a b : List ℕ) (xs ys : List (ℕ × X)) → IsMadeOf is_piece count a xs → IsMadeOf is_piece count b ys → IsMadeOf is_piece count (a ++ b) (xs ++ ys)
  made-both a b xs ys m n = record {
    each = map-append (λ (q : ℕ × X). q.0) xs ys ∙ ((λ i. m.each i ++ n.each i) ∙ sym (filter-append (λ d. nat_lt d count) a b));
    pieces = All-append (λ (q : ℕ × X). is_piece q.0 q.1) xs ys m.pieces n.pieces;
    ended = omega (arith, weigh-append (λ y. if nat_le count y then 1 else 0) a b, m.ended);
  }

  -- each index has a piece that was made
  pub all-made : (ds : List ℕ) (made : List (ℕ × X)) → IsAllBelow ds → IsMadeOf is_piece count ds made → (x : ℕ) → x < count → Contains (numbers made) x
  all-made ds made all m x less =
      let some_late = late-some count ds m.ended in
      let within = once-lt some_late.0 (length ds) (subst (λ (z : ℕ). 1 ≤ z) (all some_late.0) some_late.2) in
      let here : 1 ≤ times x ds = let a = all x in grind (arith, nat_tests) in
      times-there (numbers made) x (subst (λ xs. 1 ≤ times x xs) (sym m.each) (kept-times (λ d. nat_lt d count) ds x (lt-true x count less) here))

  pub made-within : (ds : List ℕ) (made : List (ℕ × X)) → IsMadeOf is_piece count ds made → All (λ p. p.0 < count) made
  made-within ds made m k d lt =
      let n : ℕ = (get_or made k d).0 in
      let long : k < length (numbers made) = rw length-map lt in
      let at : get_or (numbers made) k d.0 ≡ n = get_or-map made k d in
      subst (λ (z : ℕ). z < count) at
      (All-contains (λ (z : ℕ). z < count) (filter (λ z. nat_lt z count) ds) _ (filter-below ds) (subst (λ xs. Contains xs (get_or (numbers made) k d.0)) m.each (k, long, get_or_any (numbers made) k d.0 long)))
    where
      get_or-map : (xs : List (ℕ × X)) (k : ℕ) (d : ℕ × X) → get_or (numbers xs) k d.0 ≡ (get_or xs k d).0
      get_or-map [] k d = refl
      get_or-map (x ∷ xs) zero d = refl
      get_or-map (x ∷ xs) (suc k) d = get_or-map xs k d

      get_or_any : (xs : List ℕ) (k d : ℕ) → k < length xs → get_or xs k (get_or xs k d) ≡ get_or xs k d
      get_or_any [] k d h = absurd (omega arith)
      get_or_any (x ∷ xs) zero d h = refl
      get_or_any (x ∷ xs) (suc k) d h = get_or_any xs k d (omega arith)

      filter-below : (xs : List ℕ) → All (λ (z : ℕ). z < count) (filter (λ z. nat_lt z count) xs)
      filter-below xs = All-filter-self (λ z. nat_lt z count) (λ (z : ℕ). z < count) (λ z e. grind (arith, nat_tests)) xs

  -- what two halves of the crew made, where the lists of both were put together
  pub both-made : {V E : Type 0} (items : V → List (ℕ × X)) (first second r : Result V E) (ds es cs : List ℕ) → cs ≡ ds ++ es
      → IfOk r (λ v. IsOkAnd first (λ a. IsOkAnd second (λ b. items v ≡ items a ++ items b)))
      → IfOk first (λ v. IsMadeOf is_piece count ds (items v)) → IfOk second (λ v. IsMadeOf is_piece count es (items v)) → IfOk r (λ v. IsMadeOf is_piece count cs (items v))
  both-made items first second r ds es cs all put a b =
      both-ok items (IsMadeOf is_piece count) (IsMadeOf is_piece count) (IsMadeOf is_piece count) first second r ds es cs all put (made-both ds es) a b

  -- what was put at the indices are the pieces
  pub all-placed : {E : Type 0} (made : List (ℕ × X)) (r : Result (List X) E) → All (λ p. is_piece p.0 p.1) made
      → IfOk r (λ l. length l ≡ count) → IfOk r (λ l. (x : ℕ) (d : X) → x < count → Contains made (x, get_or l x d)) → IfOk r (λ l. AreAll is_piece count l)
  all-placed made (Err e) pieces len own = tt
  all-placed made (Ok l) pieces len own = record { len = len; each = λ b d lt. All-contains (λ (p : ℕ × X). is_piece p.0 p.1) made (b, get_or l b d) pieces (own b d lt) }
