-- One step of a loop over items.
use Rattle.std.proofs.Common.{◌≡◌, ℕ, zero, suc, ◌+◌, ◌-◌, ◌<◌, ◌≤◌, Bool, true, false, cond, List, [], ◌∷◌, ◌++◌, append_assoc, length, map, max, take, drop, replicate, Option, Some, None, refl, sym, ap, arith, ◌∙◌}
use Rattle.std.proofs.lemmas.List.{append-nil, drop_all}
use Rattle.std.specs.List.{zip}
use Rattle.std.specs.Prelude.{count_by, slice_get}
use Rattle.mq_base.proofs.lemmas.Lists.{drop_at, some_inj, take-at}
use Rattle.mq_core.specs.Kinds.Join.{is_item, later_place, match_of, matches_from, place_from, place_or}
use Rattle.mq_join.specs.Items.{indices_from}

pub replicate-at : {X : Type 0} (n i : ℕ) (x : X) → i < n → slice_get (replicate n x) i ≡ Some x
replicate-at zero i x l = absurd (omega arith)
replicate-at (suc n) zero x l = refl
replicate-at (suc n) (suc i) x l = replicate-at n i x (omega arith)

pub replicate-many : {X : Type 0} (n : ℕ) (x : X) → length (replicate n x) ≡ n
replicate-many zero x = refl
replicate-many (suc n) x = ap suc (replicate-many n x)

pub zip-at : (xs ys : List ℕ) (i x y : ℕ) → slice_get xs i ≡ Some x → slice_get ys i ≡ Some y → slice_get (zip xs ys) i ≡ Some (x, y)
zip-at [] ys i x y e f = absurd cc
zip-at (a ∷ xs) [] i x y e f = absurd cc
zip-at (a ∷ xs) (b ∷ ys) zero x y e f = λ k. Some (some_inj a x e k, some_inj b y f k)
zip-at (a ∷ xs) (b ∷ ys) (suc i) x y e f = zip-at xs ys i x y e f

-- a walk over items that gives one value an item, from those before it
module _ {X Y : Type 0} (walk : List X → List X → List Y) (one : List X → X → Y) (next : (before xs : List X) (x : X) → walk before (x ∷ xs) ≡ one before x ∷ walk (before ++ x ∷ []) xs) where
  pub walk-next : (items : List X) (at : ℕ) (x : X) → slice_get items at ≡ Some x → (done all : List Y) → done ++ walk (take at items) (drop at items) ≡ all → (done ++ one (take at items) x ∷ []) ++ walk (take (at + 1) items) (drop (at + 1) items) ≡ all
  walk-next items at x e done all h =
      append_assoc done (one (take at items) x ∷ []) (walk (take (at + 1) items) (drop (at + 1) items))
      ∙ (ap (λ ys. done ++ one (take at items) x ∷ ys) (ap (λ before. walk before (drop (at + 1) items)) (take-at items at x e))
      ∙ (ap (λ ys. done ++ ys) (sym (next (take at items) (drop (at + 1) items) x)) ∙ (ap (λ rest. done ++ walk (take at items) rest) (sym (drop_at items at x e)) ∙ h)))

  pub walk-end : ((before : List X) → walk before [] ≡ []) → (items : List X) (at : ℕ) → length items ≤ at → (done all : List Y) → done ++ walk (take at items) (drop at items) ≡ all → done ≡ all
  walk-end ends items at l done all h = sym (append-nil done) ∙ (ap (λ ys. done ++ ys) (sym (ap (walk (take at items)) (drop_all at items l) ∙ ends (take at items))) ∙ h)

  -- the value of an item
  pub walk-at : (before items : List X) (at : ℕ) (x : X) → slice_get items at ≡ Some x → slice_get (walk before items) at ≡ Some (one (before ++ take at items) x)
  walk-at before [] at x e = absurd cc
  walk-at before (y ∷ items) zero x e = ap (λ ys. slice_get ys 0) (next before items y) ∙ (λ i. Some (one (sym (append-nil before) i) (some_inj y x e i)))
  walk-at before (y ∷ items) (suc at) x e =
      ap (λ ys. slice_get ys (suc at)) (next before items y)
      ∙ (walk-at (before ++ y ∷ []) items at x e ∙ ap (λ b. Some (one b x)) (append_assoc before (y ∷ []) (take at items)))

  pub walk-many : ((before : List X) → walk before [] ≡ []) → (before items : List X) → length (walk before items) ≡ length items
  walk-many ends before [] = ap length (ends before)
  walk-many ends before (y ∷ items) = ap length (next before items y) ∙ ap suc (walk-many ends (before ++ y ∷ []) items)

-- the index of each item, and its match
pub indices-next : (items : List (ℕ × ℕ)) (at : ℕ) (x : ℕ × ℕ) → slice_get items at ≡ Some x → (done all : List ℕ) → done ++ indices_from (take at items) (drop at items) ≡ all → (done ++ count_by (is_item x.1 x.0) (take at items) ∷ []) ++ indices_from (take (at + 1) items) (drop (at + 1) items) ≡ all
indices-next = walk-next indices_from (λ before x. count_by (is_item x.1 x.0) before) (λ before xs x. refl)

pub indices-end : (items : List (ℕ × ℕ)) (at : ℕ) → length items ≤ at → (done all : List ℕ) → done ++ indices_from (take at items) (drop at items) ≡ all → done ≡ all
indices-end = walk-end indices_from (λ before x. count_by (is_item x.1 x.0) before) (λ before xs x. refl) (λ before. refl)

pub index-at : (items : List (ℕ × ℕ)) (at : ℕ) (x : ℕ × ℕ) → slice_get items at ≡ Some x → slice_get (indices_from [] items) at ≡ Some (count_by (is_item x.1 x.0) (take at items))
index-at = walk-at indices_from (λ before x. count_by (is_item x.1 x.0) before) (λ before xs x. refl) []

pub index-many : (items : List (ℕ × ℕ)) → length (indices_from [] items) ≡ length items
index-many = walk-many indices_from (λ before x. count_by (is_item x.1 x.0) before) (λ before xs x. refl) (λ before. refl) []

module _ (ports : ℕ) (items : List (ℕ × ℕ)) where
  abbrev pub match_at : List (ℕ × ℕ) → ℕ × ℕ → Option ℕ
  match_at before x = match_of ports x.1 (count_by (is_item x.1 x.0) before) items

  pub matches-next : (at : ℕ) (x : ℕ × ℕ) → slice_get items at ≡ Some x → (done all : List (Option ℕ)) → done ++ matches_from ports items (take at items) (drop at items) ≡ all → (done ++ match_at (take at items) x ∷ []) ++ matches_from ports items (take (at + 1) items) (drop (at + 1) items) ≡ all
  matches-next = walk-next (matches_from ports items) match_at (λ before xs x. refl) items

  pub matches-end : (at : ℕ) → length items ≤ at → (done all : List (Option ℕ)) → done ++ matches_from ports items (take at items) (drop at items) ≡ all → done ≡ all
  matches-end = walk-end (matches_from ports items) match_at (λ before xs x. refl) (λ before. refl) items

  pub match-at : (at : ℕ) (x : ℕ × ℕ) → slice_get items at ≡ Some x → slice_get (matches_from ports items [] items) at ≡ Some (match_at (take at items) x)
  match-at = walk-at (matches_from ports items) match_at (λ before xs x. refl) [] items

  pub matches-many : length (matches_from ports items [] items) ≡ length items
  matches-many = walk-many (matches_from ports items) match_at (λ before xs x. refl) (λ before. refl) [] items

-- a place is that of an item
place-below : (job port i position q : ℕ) (items : List (ℕ × ℕ)) → place_from job port i position items ≡ Some q → q < position + length items
place-below job port i position q [] e = absurd cc
place-below job port i position q (z ∷ zs) e = go (is_item job port z) i e (place-below job port (i - 1) (suc position) q zs) (place-below job port i (suc position) q zs)
  where
    go : (b : Bool) (n : ℕ) → cond b (place_or n position (place_from job port (i - 1) (suc position) zs)) (place_from job port i (suc position) zs) ≡ Some q → (place_from job port (i - 1) (suc position) zs ≡ Some q → q < suc position + length zs) → (place_from job port i (suc position) zs ≡ Some q → q < suc position + length zs) → q < position + suc (length zs)
    go true zero f less same = let own = some_inj position q f in omega arith
    go true (suc n) f less same = let l = less f in omega arith
    go false n f less same = let l = same f in omega arith

pub match-below : (ports job i q : ℕ) (items : List (ℕ × ℕ)) → 1 ≤ ports → match_of ports job i items ≡ Some q → q < length items
match-below zero job i q items l e = absurd (omega arith)
match-below (suc ports) job i q items l e = go ports (place_from job ports i 0 items) refl (match_of ports job i items) refl (match-below ports job i)
  where
    go : (n : ℕ) (o : Option ℕ) → place_from job ports i 0 items ≡ o → (r : Option ℕ) → match_of ports job i items ≡ r → ((p : ℕ) (xs : List (ℕ × ℕ)) → 1 ≤ ports → match_of ports job i xs ≡ Some p → p < length xs) → q < length items
    go n None f r g ih = absurd (let none : later_place None r ≡ Some q = (λ k. later_place (sym f k) (sym g k)) ∙ e in cc)
    go n (Some o) f None g ih = absurd (let none : later_place (Some o) None ≡ Some q = (λ k. later_place (sym f k) (sym g k)) ∙ e in cc)
    go n (Some o) f (Some r) g ih =
        let whole : max o r ≡ q = some_inj (max o r) q ((λ k. later_place (sym f k) (sym g k)) ∙ e) in
        let first = place-below job ports i 0 o items f in
        let rest = other ports r g (λ p. ih p items) in
        omega arith
      where
        other : (m r : ℕ) → match_of m job i items ≡ Some r → ((p : ℕ) → 1 ≤ m → match_of m job i items ≡ Some p → p < length items) → r ≤ max o (length items - 1)
        other zero r h k = let same = some_inj 0 r h in omega arith
        other (suc m) r h k = let u = k r (omega arith) h in omega arith

-- an item more of a map
pub map-more : {X Y : Type 0} (f : X → Y) (xs : List X) (i : ℕ) (x : X) → slice_get xs i ≡ Some x → map f (take i xs) ++ f x ∷ [] ≡ map f (take (i + 1) xs)
map-more f [] i x e = absurd cc
map-more f (y ∷ xs) zero x e = ap (λ z. f z ∷ []) (sym (some_inj y x e))
map-more f (y ∷ xs) (suc i) x e = ap (λ l. f y ∷ l) (map-more f xs i x e) ∙ ap (λ n. map f (take n (y ∷ xs))) (let next : suc (i + 1) ≡ suc i + 1 = omega arith in next)
