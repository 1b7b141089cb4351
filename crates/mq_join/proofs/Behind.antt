-- No match is whole before a visit of it, and each is whole at a visit.
use Rattle.std.proofs.Common.{◌≡◌, ℕ, zero, suc, ◌<◌, ◌≤◌, List, [], ◌∷◌, ◌++◌, length, take, drop, Some, sym, ap, arith, ◌∙◌}
use Rattle.std.proofs.lemmas.List.{length-take-le, take-append-drop}
use Rattle.std.proofs.lemmas.Option.{slice_get_within}
use Rattle.std.specs.List.{zip}
use Rattle.std.specs.Prelude.{count_by, slice_get}
use Rattle.mq_base.proofs.lemmas.Lists.{drop_suc, get-some, some_inj}
use Rattle.mq_core.specs.Kinds.Join.{is_item, match_of, matches_from}
use Rattle.mq_core.proofs.lemmas.Matches.{match-behind}
use Rattle.mq_join.specs.Below.{AreBelow}
use Rattle.mq_join.specs.Items.{AreBehind}
use Rattle.mq_join.proofs.Steps.{match-at, match-below, matches-many}

-- the port of an item
pub zip-first : (xs ys : List ℕ) (i : ℕ) (p : ℕ × ℕ) → slice_get (zip xs ys) i ≡ Some p → slice_get xs i ≡ Some p.0
zip-first [] ys i p e = absurd cc
zip-first (x ∷ xs) [] i p e = absurd cc
zip-first (x ∷ xs) (y ∷ ys) zero p e = λ k. Some (some_inj (x, y) p e k).0
zip-first (x ∷ xs) (y ∷ ys) (suc i) p e = zip-first xs ys i p e

-- an item, with those before it and behind it
pub split-at : {X : Type 0} (xs : List X) (i : ℕ) (x : X) → slice_get xs i ≡ Some x → xs ≡ take i xs ++ x ∷ drop (suc i) xs
split-at xs i x e = sym (take-append-drop i xs) ∙ ap (λ l. take i xs ++ l) (drop_suc xs i x e)

module _ (ports : ℕ) (port job : List ℕ) (below : AreBelow ports port) where
  abbrev items : List (ℕ × ℕ)
  items = zip port job

  behind-one : (position place : ℕ) (x : ℕ × ℕ) → slice_get items position ≡ Some x → match_of ports x.1 (count_by (is_item x.1 x.0) (take position items)) items ≡ Some place → (position ≤ place) × (place < length items)
  behind-one position place x e whole =
      let l = slice_get_within items position x e in
      let here : x.0 < ports = below position x.0 (zip-first port job position x e) in
      let many : length (take position items) ≡ position = length-take-le position items (omega arith) in
      let first = match-behind ports (take position items) (drop (suc position) items) x place here (ap (match_of ports x.1 (count_by (is_item x.1 x.0) (take position items))) (sym (split-at items position x e)) ∙ whole) in
      let last = match-below ports x.1 (count_by (is_item x.1 x.0) (take position items)) place items (omega arith) whole in
      (omega arith, last)

  pub matches-behind : AreBehind (matches_from ports items [] items)
  matches-behind position place e =
      let many = matches-many ports items in
      let l = slice_get_within (matches_from ports items [] items) position (Some place) e in
      let x = get-some items position (omega arith) in
      let whole = some_inj _ (Some place) (sym (match-at ports items position x.0 x.1) ∙ e) in
      let r = behind-one position place x.0 x.1 whole in
      let a = r.0 in
      let b = r.1 in
      (a, omega arith)
