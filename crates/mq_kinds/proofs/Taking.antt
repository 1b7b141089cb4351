-- What the next pieces contain.
use Rattle.std.proofs.Common.{◌≡◌, ℕ, zero, suc, ◌+◌, ◌*◌, ◌<◌, ◌≤◌, ◌⊎◌, inl, inr, List, [], ◌∷◌, ◌++◌, length, get_or, take, drop, sym, ap, ◌∙◌, subst, arith, length-append, length-drop}
use Rattle.std.proofs.Math.ListN.{get_or-append}
use Rattle.std.proofs.Math.Seq.{get_or-append_seam}
use Rattle.std.proofs.Math.Nat.{mul-le-mul_left}
use Rattle.std.proofs.lemmas.Bool.{cases_lt}
use Rattle.std.proofs.lemmas.List.{drop-drop}
use Rattle.std.proofs.lemmas.List.Elements.{filter_map-append}
use Rattle.std.specs.List.{cons_option, filter_map}
use Rattle.std.specs.Prelude.{Option}

module _ {P : Type 0} where
  drop-step : (all : List P) (n : ℕ) (piece : P) (rest : List P) → drop n all ≡ piece ∷ rest → (take (suc n) all ≡ take n all ++ piece ∷ []) × (drop (suc n) all ≡ rest)
  drop-step [] zero piece rest e = absurd cc
  drop-step [] (suc n) piece rest e = absurd cc
  drop-step (y ∷ ys) zero piece rest e = (let h : y ≡ piece = cc in ap (λ z. z ∷ []) h, cc)
  drop-step (y ∷ ys) (suc n) piece rest e = let h = drop-step ys n piece rest e in (ap (λ l. y ∷ l) h.0, h.1)

  -- one more piece is taken
  pub content-more : {X : Type 0} (view : P → Option X) (all : List P) (n : ℕ) (piece : P) (left left' : List P) (o : Option X) (done done' : List X) → left ≡ drop n all → left ≡ piece ∷ left' → o ≡ view piece →
      done ≡ filter_map view (take n all) → done' ≡ done ++ cons_option o [] → (done' ≡ filter_map view (take (n + 1) all)) × (left' ≡ drop (n + 1) all)
  content-more view all n piece left left' o done done' a b v c d =
      let step = drop-step all n piece left' (sym a ∙ b) in
      let next : suc n ≡ n + 1 = omega arith in (
        d ∙ ((λ k. c k ++ cons_option (v k) []) ∙ (sym (filter_map-append view (take n all) (piece ∷ [])) ∙ (ap (filter_map view) (sym step.0) ∙ ap (λ m. filter_map view (take m all)) next))),
        sym step.1 ∙ ap (λ m. drop m all) next,
      )

  pub drop-more : (all left left' : List P) (i size : ℕ) → left ≡ drop (i * size) all → left' ≡ drop size left → left' ≡ drop ((i + 1) * size) all
  drop-more all left left' i size e f =
      let next : i * size + size ≡ (i + 1) * size = omega arith in
      f ∙ (ap (drop size) e ∙ (drop-drop size (i * size) all ∙ ap (λ n. drop n all) next))

  pub room : (all left : List P) (i count size : ℕ) → length all ≡ count * size → i < count → left ≡ drop (i * size) all → size ≤ length left
  room all left i count size len inside e =
      let gone = ap length e ∙ length-drop (i * size) all in
      let most : size * (i + 1) ≤ size * count = mul-le-mul_left size (omega arith) in
      omega arith

-- a further item, where each is that of its index
pub items-more : {S : Type 0} (is : ℕ → S → Type 0) (items items' : List S) (b : ℕ) (item : S) → length items ≡ b → ((k : ℕ) (d : S) → k < b → is k (get_or items k d)) → is b item → items' ≡ items ++ item ∷ [] →
    (length items' ≡ b + 1) × ((k : ℕ) (d : S) → k < b + 1 → is k (get_or items' k d))
items-more {S} is items items' b item len each own e = (
  let h = ap length e ∙ length-append items (item ∷ []) in omega arith,
  λ k d l. subst (λ (s : List S). is k (get_or s k d)) (sym e) (go k d l (cases_lt k b)),
)
  where
    go : (k : ℕ) (d : S) → k < b + 1 → (k < b) ⊎ (b ≤ k) → is k (get_or (items ++ item ∷ []) k d)
    go k d l (inl less) = subst (is k) (sym (get_or-append items (item ∷ []) d k (omega arith))) (each k d less)
    go k d l (inr more) =
        let same : k ≡ length items = omega arith in
        let at : b ≡ k = omega arith in
        let found : item ≡ get_or (items ++ item ∷ []) k d = sym (ap (λ j. get_or (items ++ item ∷ []) j d) same ∙ get_or-append_seam items item [] d) in
        subst (λ (z : ℕ × S). is z.0 z.1) (λ i. (at i, found i)) own
