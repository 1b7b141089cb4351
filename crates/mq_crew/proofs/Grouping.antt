-- The pieces of several, taken apart.
use Rattle.std.proofs.Common.{◌≡◌, ℕ, zero, suc, ◌+◌, ◌-◌, ◌<◌, ◌≤◌, ◌⊎◌, inl, inr, List, [], ◌∷◌, ◌++◌, length, get_or, take, drop, Some, sym, refl, ap, ◌∙◌, subst, arith, length-append, length-drop}
use Rattle.std.specs.Prelude.{slice_get}
use Rattle.std.proofs.lemmas.Bool.{cases_lt}
use Rattle.std.proofs.lemmas.List.{get_or-drop, get_or-take, length-take-le}
use Rattle.std.proofs.lemmas.Option.{slice_get_within}
use Rattle.std.proofs.Math.Seq.{drop-cons}
use Rattle.mq_base.proofs.lemmas.Lists.{get-last, get-push, get-take}
use Rattle.mq_crew.specs.Crew.{AreAll, AreGroups, IsPieceOf, total_size}

-- one item more, of what is taken
drop-step : {X : Type 0} (xs : List X) (n : ℕ) (x : X) (rest : List X) → drop n xs ≡ x ∷ rest → (take (suc n) xs ≡ take n xs ++ x ∷ []) × (drop (suc n) xs ≡ rest)
drop-step [] zero x rest e = absurd cc
drop-step [] (suc n) x rest e = absurd cc
drop-step (y ∷ ys) zero x rest e = (let h : y ≡ x = cc in ap (λ z. z ∷ []) h, cc)
drop-step (y ∷ ys) (suc n) x rest e = let h = drop-step ys n x rest e in (ap (λ l. y ∷ l) h.0, h.1)

pub taken-more : {X : Type 0} (xs : List X) (n : ℕ) (x : X) (left left' done done' : List X) → left ≡ drop n xs → left ≡ x ∷ left' → done ≡ take n xs → done' ≡ done ++ x ∷ [] → (done' ≡ take (n + 1) xs) × (left' ≡ drop (n + 1) xs)
taken-more xs n x left left' done done' a b c d =
    let step = drop-step xs n x left' (sym a ∙ b) in
    let next : suc n ≡ n + 1 = omega arith in (
      d ∙ (ap (λ l. l ++ x ∷ []) c ∙ (sym step.0 ∙ ap (λ m. take m xs) next)),
      sym step.1 ∙ ap (λ m. drop m xs) next,
    )

module _ {P X : Type 0} (size : P → ℕ) (is_piece : P → ℕ → X → Type 0) where
  -- the first of these takes the first pieces, and the others have the rest
  pub first-group : (part : P) (parts : List P) (items : List X) → AreAll (IsPieceOf size is_piece (part ∷ parts)) (size part + total_size size parts) items →
      AreAll (is_piece part) (size part) (take (size part) items) × AreAll (IsPieceOf size is_piece parts) (total_size size parts) (drop (size part) items)
  first-group part parts items all =
      let n = size part in
      let long = all.len in (
        record {
          len = length-take-le n items (omega arith);
          each = λ b d l. subst (is_piece part b) (sym (get_or-take n items b d l)) ((all.each b d (omega arith)).0 l);
        },
        record {
          len = let h = length-drop n items in omega arith;
          each = λ b d l.
              let at = (all.each (n + b) d (omega arith)).1 (omega arith) in
              let back : (n + b) - n ≡ b = omega arith in
              subst (λ (z : ℕ × X). IsPieceOf size is_piece parts z.0 z.1) (λ k. (back k, sym (get_or-drop n items b d) k)) at;
        },
      )

  -- where there is no part, there is no group
  pub no-groups : AreGroups size is_piece [] []
  no-groups = record { len = refl; each = λ i part group a b. absurd (nothing i part a) }
    where
      nothing : (i : ℕ) (part : P) → slice_get [] i ≡ Some part → ⊥
      nothing i part a = cc

  -- one group more
  pub group-more : (parts : List P) (i : ℕ) (part : P) (groups groups' : List (List X)) (group : List X) → slice_get parts i ≡ Some part → AreGroups size is_piece (take i parts) groups → AreAll (is_piece part) (size part) group → groups' ≡ groups ++ group ∷ [] →
      AreGroups size is_piece (take (i + 1) parts) groups'
  group-more parts i part groups groups' group at all own e =
      let inside = slice_get_within parts i part at in
      let before : length (take i parts) ≡ i = length-take-le i parts (omega arith) in
      let after : length (take (i + 1) parts) ≡ i + 1 = length-take-le (i + 1) parts (omega arith) in
      let count = all.len in
      record {
        len = let h = ap length e ∙ length-append groups (group ∷ []) in omega arith;
        each = λ k other g a b. go k other g (get-take parts (i + 1) k other a) (ap (λ l. slice_get l k) (sym e) ∙ b) (cases_lt k i);
      }
    where
      slice_get-take : {Y : Type 0} (xs : List Y) (n k : ℕ) → k < n → slice_get (take n xs) k ≡ slice_get xs k
      slice_get-take [] zero k l = refl
      slice_get-take [] (suc n) k l = refl
      slice_get-take (x ∷ xs) zero k l = absurd (omega arith)
      slice_get-take (x ∷ xs) (suc n) zero l = refl
      slice_get-take (x ∷ xs) (suc n) (suc k) l = slice_get-take xs n k (omega arith)

      go : (k : ℕ) (other : P) (g : List X) → (k < i + 1) × (slice_get parts k ≡ Some other) → slice_get (groups ++ group ∷ []) k ≡ Some g → (k < i) ⊎ (i ≤ k) → AreAll (is_piece other) (size other) g
      go k other g a b (inl less) =
          let long = slice_get_within parts i part at in
          let before : length (take i parts) ≡ i = length-take-le i parts (omega arith) in
          let count = all.len in
          all.each k other g (slice_get-take parts i k less ∙ a.1) (sym (get-push groups group k (omega arith)) ∙ b)
      go k other g a b (inr more) =
          let l = a.0 in
          let same : k ≡ i = omega arith in
          let long = slice_get_within parts i part at in
          let before : length (take i parts) ≡ i = length-take-le i parts (omega arith) in
          let count : length groups ≡ i = all.len ∙ before in
          let is-part : Some part ≡ Some other = sym at ∙ (ap (slice_get parts) (sym same) ∙ a.1) in
          let is-group : Some group ≡ Some g = sym (get-last groups group) ∙ (ap (slice_get (groups ++ group ∷ [])) (count ∙ sym same) ∙ b) in
          let p : part ≡ other = cc in
          let q : group ≡ g = cc in
          subst (λ (z : P × List X). AreAll (is_piece z.0) (size z.0) z.1) (λ j. (p j, q j)) own

  -- a part, and those behind it
  pub part-here : (parts : List P) (i : ℕ) (part : P) → i < length parts → part ≡ get_or parts i part → drop i parts ≡ part ∷ drop (i + 1) parts
  part-here parts i part l e = drop-cons parts i part l ∙ ((λ k. sym e k ∷ drop (next k) parts))
    where
      next : suc i ≡ i + 1
      next = omega arith

  -- the pieces that are left, taken apart
  pub rest-apart : (parts : List P) (i : ℕ) (part : P) (items : List X) → drop i parts ≡ part ∷ drop (i + 1) parts → AreAll (IsPieceOf size is_piece (drop i parts)) (total_size size (drop i parts)) items →
      AreAll (IsPieceOf size is_piece (part ∷ drop (i + 1) parts)) (size part + total_size size (drop (i + 1) parts)) items
  rest-apart parts i part items e all = subst (λ (l : List P). AreAll (IsPieceOf size is_piece l) (total_size size l) items) e all
