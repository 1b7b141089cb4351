-- Lists whose items all pass a test.
use Rattle.std.proofs.Common.{◌≡◌, ℕ, zero, suc, ◌<◌, Bool, true, List, [], ◌∷◌, length, get_or, refl, arith}
use Rattle.std.specs.List.{list_all}
use Rattle.std.proofs.lemmas.Bool.{and_from, and_parts}

-- so does the item at an index
pub all_at : {X : Type 0} (p : X → Bool) (xs : List X) (k : ℕ) (d : X) → list_all p xs ≡ true → k < length xs → p (get_or xs k d) ≡ true
all_at p [] k d h within = absurd (omega arith)
all_at p (x ∷ xs) zero d h within = (and_parts _ _ h).0
all_at p (x ∷ xs) (suc k) d h within = all_at p xs k d (and_parts _ _ h).1 (omega arith)

-- they pass a wider test
pub list_all_wider : {X : Type 0} (p q : X → Bool) (xs : List X) → ((x : X) → p x ≡ true → q x ≡ true) → list_all p xs ≡ true → list_all q xs ≡ true
list_all_wider p q [] wider h = refl
list_all_wider p q (x ∷ xs) wider h = let both = and_parts _ _ h in and_from _ _ (wider x both.0) (list_all_wider p q xs wider both.1)
