-- What is in pieces of one form.
use Rattle.std.proofs.Common.{◌≡◌, ℕ, ◌+◌, ◌<◌, ◌≤◌, suc, List, [], ◌∷◌, length, map, get_or, take, drop, Some, subst, ap, refl, sym, ◌∙◌, arith, length-drop}
use Rattle.std.specs.List.{cons_option, filter_map}
use Rattle.std.specs.Prelude.{Option, None, IsSome, IsSomeAnd}
use Rattle.std.proofs.lemmas.List.{get_or-drop, get_or-map, get_or-take, length-map, length-take-le}
use Rattle.mq_crew.specs.Crew.{AreAll}
use Rattle.mq_kinds.specs.Pieces.{IsOf}
use Rattle.mq_kinds.specs.declared.pieces.Piece.{Piece}

module _ {X : Type 0} where
  is-some : (o : Option X) (P : X → Type 0) → IsSomeAnd o P → IsSome o
  is-some None P h = absurd h
  is-some (Some x) P h = refl

  at-some : (o : Option X) (P : X → Type 0) (x : X) → IsSomeAnd o P → o ≡ Some x → P x
  at-some o P x h e = subst (λ (z : Option X). IsSomeAnd z P) e h

  there : (o : Option X) (xs : List X) → IsSome o → o ∷ map Some xs ≡ map Some (cons_option o xs)
  there None xs h = absurd cc
  there (Some x) xs h = refl

  module _ (view : Piece → Option X) where
    -- none is left out
    all-there : (made : List Piece) → ((b : ℕ) (d : Piece) → b < length made → IsSome (view (get_or made b d))) → map view made ≡ map Some (filter_map view made)
    all-there [] h = refl
    all-there (piece ∷ made) h =
        ap (λ l. view piece ∷ l) (all-there made (λ b d l. h (suc b) d (omega arith))) ∙ there (view piece) (filter_map view made) (h 0 piece (omega arith))

    -- what is in pieces of this form is right, if they are
    pub contents-are : (is : ℕ → X → Type 0) (count : ℕ) (made : List Piece) → AreAll (IsOf view is) count made → AreAll is count (filter_map view made)
    contents-are is count made all =
        let len = all.len in
        let each : (b : ℕ) (d : Piece) → b < length made → IsSome (view (get_or made b d)) = λ b d l. is-some (view (get_or made b d)) (is b) (all.each b d (omega arith)) in
        let same = all-there made each in
        let many : length made ≡ length (filter_map view made) = sym (length-map made view) ∙ (ap length same ∙ length-map (filter_map view made) Some) in
        record { len = omega arith; each = λ b d l. at b d l same len many made refl }
      where
        at : (b : ℕ) (d : X) → b < count → map view made ≡ map Some (filter_map view made) → length made ≡ count → length made ≡ length (filter_map view made) → (some : List Piece) → some ≡ made → is b (get_or (filter_map view made) b d)
        at b d l same len many [] e = let none = ap length e in absurd (omega arith)
        at b d l same len many (p ∷ rest) e =
            let found : view (get_or made b p) ≡ Some (get_or (filter_map view made) b d) =
            sym (get_or-map view made b p (Some d) (omega arith)) ∙ (ap (λ (os : List (Option X)). get_or os b (Some d)) same ∙ get_or-map Some (filter_map view made) b d (Some d) (omega arith)) in
            at-some (view (get_or made b p)) (is b) (get_or (filter_map view made) b d) (all.each b p l) found

  -- the same, of a part of the pieces
  pub part-of : (view : Piece → Option X) (Are : ℕ → Piece → Type 0) (is : ℕ → X → Type 0) (count from size : ℕ) (made : List Piece) → AreAll Are count made → from + size ≤ count → ((b : ℕ) (piece : Piece) → b < size → Are (from + b) piece → IsOf view is b piece) →
      AreAll is size (filter_map view (take size (drop from made)))
  part-of view Are is count from size made all inside own =
      let len = all.len in
      let gone = length-drop from made in
      let room : size ≤ length (drop from made) = omega arith in
      contents-are view is size (take size (drop from made))
      (record {
        len = length-take-le size (drop from made) room;
        each = λ b d l.
            let at : get_or (take size (drop from made)) b d ≡ get_or made (from + b) d = get_or-take size (drop from made) b d l ∙ get_or-drop from made b d in
            subst (IsOf view is b) (sym at) (own b (get_or made (from + b) d) l (all.each (from + b) d (omega arith)));
      })
