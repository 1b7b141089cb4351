-- Pieces that are put at their indices.
use Rattle.std.proofs.Common.{◌≡◌, ℕ, zero, suc, ◌+◌, ◌<◌, ◌⊎◌, Option, Some, None, IsSome, is_some, List, [], ◌∷◌, ◌++◌, length, get_or, set, refl, sym, ap, ◌∙◌, subst, inl, inr, ⊎_elim, arith, All, Contains, length-set, get_or-set_other, get_or-set_same, append_assoc, replicate}
use Rattle.std.proofs.lemmas.List.{append-nil, length-replicate, map-append}
use Rattle.std.proofs.Math.Seq.{get_or-append_seam}
use Rattle.std.proofs.Math.ListN.{get_or-append}
use Rattle.std.proofs.lemmas.List.Elements.{Contains-append_cases, Contains-append_left, Contains-append_right, All-contains}
use native.Mathlib.Decide.{ℕ_discrete}
use mathlib.Core.Logic.{dite}
use Rattle.mq_base.proofs.lemmas.Lists.{only, some_inj}
use Rattle.mq_crew.specs.Crew.{numbers}

All-front : {Y : Type 0} (P : Y → Type 0) (xs ys : List Y) → All P (xs ++ ys) → All P xs
All-front P [] ys h k d lt = absurd (omega arith)
All-front P (x ∷ xs) ys h zero d lt = h 0 d (omega arith)
All-front P (x ∷ xs) ys h (suc k) d lt = All-front P xs ys (λ j e l. h (suc j) e (omega arith)) k d (omega arith)

last-in : {Y : Type 0} (xs : List Y) (y : Y) → Contains (xs ++ y ∷ []) y
last-in xs y = Contains-append_right xs (y ∷ []) y (0, omega arith, refl)

none-some : {Y : Type 0} (a : Y) → None ≡ Some a → ⊥
none-some a e = cc

none-there : {X : Type 0} (n x : ℕ) → get_or (replicate {A = Option X} n None) x None ≡ None
none-there zero x = refl
none-there (suc n) zero = refl
none-there (suc n) (suc x) = none-there n x

module _ {X : Type 0} (count : ℕ) (all : List (ℕ × X)) where
  -- what is left are the first of all, and what stands at an index came with its number
  pub record IsPlacing (left : List (ℕ × X)) (slots : List (Option X)) : Type 0 where
    pub len : length slots ≡ count
    pub rest : (r : List (ℕ × X)) × (all ≡ left ++ r)
    pub within : All (λ p. p.0 < count) left
    pub filled : (x : ℕ) → x < count → Contains (numbers left) x ⊎ IsSome (get_or slots x None)
    pub own : (x : ℕ) (p : X) → get_or slots x None ≡ Some p → Contains all (x, p)

  pub place-more : (left : List (ℕ × X)) (slots : List (Option X)) (n : ℕ) (p : X) → IsPlacing (left ++ (n, p) ∷ []) slots → IsPlacing left (set slots n (Some p))
  place-more left slots n p w =
      let less : n < count = All-contains (λ (q : ℕ × X). q.0 < count) (left ++ (n, p) ∷ []) (n, p) w.within (last-in left (n, p)) in
      let len = w.len in
      let inside : n < length slots = omega arith in
      let here : get_or (set slots n (Some p)) n None ≡ Some p = get_or-set_same slots n (Some p) None inside in
      let more : all ≡ (left ++ (n, p) ∷ []) ++ w.rest.0 = w.rest.1 in record {
        len = length-set slots n (Some p) ∙ w.len;
        rest = ((n, p) ∷ w.rest.0, more ∙ append_assoc left ((n, p) ∷ []) w.rest.0);
        within = All-front (λ (q : ℕ × X). q.0 < count) left ((n, p) ∷ []) w.within;
        filled = λ x lt. dite (ℕ_discrete x n)
            (λ e. inr (subst (λ (k : ℕ). IsSome (get_or (set slots n (Some p)) k None)) (sym e) (ap is_some here)))
            (λ ne. ⊎_elim
            (λ h. ⊎_elim (λ l. inl l) (λ r. absurd (ne (only n x r))) (Contains-append_cases (numbers left) (n ∷ []) x (subst (λ xs. Contains xs x) (map-append (λ (q : ℕ × X). q.0) left ((n, p) ∷ [])) h)))
            (λ h. inr (subst IsSome (sym (get_or-set_other slots n x (Some p) None ne)) h)) (w.filled x lt));
        own = λ x q e. dite (ℕ_discrete x n)
            (λ eq. let same : p ≡ q = some_inj p q (sym here ∙ (ap (λ (k : ℕ). get_or (set slots n (Some p)) k None) (sym eq) ∙ e)) in
            subst (λ xs. Contains xs (x, q)) (sym more) (Contains-append_left (left ++ (n, p) ∷ []) w.rest.0 (x, q) (subst (λ (z : ℕ × X). Contains (left ++ (n, p) ∷ []) z) (λ i. (sym eq i, same i)) (last-in left (n, p)))))
            (λ ne. w.own x q (sym (get_or-set_other slots n x (Some p) None ne) ∙ e));
      }

  -- where nothing is left, each index has an item
  -- no item is placed yet
  pub place-none : (slots : List (Option X)) → slots ≡ replicate {A = Option X} count None → ((x : ℕ) → x < count → Contains (numbers all) x) → All (λ p. p.0 < count) all → IsPlacing all slots
  place-none slots vacant each within = record {
    len = ap length vacant ∙ length-replicate count None;
    rest = ([], sym (append-nil all));
    within = within;
    filled = λ x lt. inl (each x lt);
    own = λ x p is. absurd (none-some p (sym (ap (λ (l : List (Option X)). get_or l x None) vacant ∙ none-there count x) ∙ is));
  }

  -- the number of the next item is within
  pub place-inside : (left : List (ℕ × X)) (slots : List (Option X)) (n : ℕ) (p : X) → IsPlacing (left ++ (n, p) ∷ []) slots → n < length slots
  place-inside left slots n p w =
      let less : n < count = All-contains (λ (q : ℕ × X). q.0 < count) (left ++ (n, p) ∷ []) (n, p) w.within (last-in left (n, p)) in
      let len = w.len in
      omega arith

  pub place-all : (slots : List (Option X)) → IsPlacing [] slots → (x : ℕ) → x < count → IsSome (get_or slots x None)
  place-all slots w x lt = ⊎_elim (λ (k, less, e). absurd (omega arith)) (λ h. h) (w.filled x lt)

-- an index that is taken out, and what was taken put behind the items
pub taken : {X : Type 0} (first slots : List (Option X)) (items : List X) (i : ℕ) (p : X) → length items ≡ i → get_or first i None ≡ Some p
    → ((x : ℕ) (d : X) → x < i → get_or first x None ≡ Some (get_or items x d)) → (x : ℕ) (d : X) → x < i + 1 → get_or first x None ≡ Some (get_or (items ++ p ∷ []) x d)
taken first slots items i p len at all x d lt = dite (ℕ_discrete x i)
    (λ e. ap (λ (k : ℕ). get_or first k None) e ∙ (at ∙ ap Some (sym (ap (λ (k : ℕ). get_or (items ++ p ∷ []) k d) (e ∙ sym len) ∙ get_or-append_seam items p [] d))))
    (λ ne. let less : x < i = omega arith in all x d less ∙ ap Some (sym (get_or-append items (p ∷ []) d x (omega arith))))
