-- Lists by index, and what a loop has made of one so far.
use Rattle.std.proofs.Common.{◌≡◌, ℕ, ◌+◌, List, [], ◌∷◌, ◌++◌, All, take, map, Some, sym, subst, ap, ◌∙◌}
use Rattle.std.specs.Prelude.{slice_get}
use Rattle.std.proofs.lemmas.List.Elements.{All-get_or}
use Rattle.std.proofs.lemmas.Option.{get_or_from_slice_get, slice_get_within}
use Rattle.std.proofs.lemmas.List.{map-append}
use Rattle.mq_base.proofs.lemmas.Lists.{take-at}

-- one item more, of what a map has made so far
pub map-more : {X Y : Type 0} (f : X → Y) (xs : List X) (i : ℕ) (x : X) (done done' : List Y) → slice_get xs i ≡ Some x → done' ≡ done ++ f x ∷ [] → done ≡ map f (take i xs) → done' ≡ map f (take (i + 1) xs)
map-more f xs i x done done' h p k = p ∙ (ap (λ l. l ++ f x ∷ []) k ∙ sym (ap (map f) (take-at xs i x h) ∙ map-append f (take i xs) (x ∷ [])))

-- what holds of each item holds of the one at an index
pub All-index : {X : Type 0} (P : X → Type 0) (xs : List X) (i : ℕ) (x : X) → All P xs → slice_get xs i ≡ Some x → P x
All-index P xs i x h e = subst P (get_or_from_slice_get xs i x x e) (All-get_or P xs i x (slice_get_within xs i x e) h)
