-- Lists that are made item by item.
use Rattle.std.proofs.Common.{◌≡◌, ◌∙◌, sym, ap, refl, ℕ, ◌+◌, ◌<◌, ◌≤◌, List, [], ◌∷◌, ◌++◌, length, get_or, take, append_assoc, append-nil, Bool, true}
use Rattle.std.specs.Prelude.{map}
use Rattle.std.specs.List.{list_all, flat_map}
use Rattle.std.proofs.lemmas.Bool.{and_parts, and_from}
use Rattle.std.proofs.lemmas.Grind.{flat_map-append}
use Rattle.std.proofs.lemmas.List.{map-append, take_all, take_more}
use Rattle.std.proofs.lemmas.List.Folds.{list_all-append}

-- each item has the property
abbrev pub AreAll : {A : Type 0} → (A → Type 0) → List A → Type 0
AreAll P [] = Unit {0}
AreAll P (x ∷ xs) = P x × AreAll P xs

pub all_parts : {X : Type 0} (p : X → Bool) (xs ys : List X) → list_all p (xs ++ ys) ≡ true → (list_all p xs ≡ true) × (list_all p ys ≡ true)
all_parts p xs ys h = and_parts _ _ (sym (list_all-append p xs ys) ∙ h)

pub all_both : {X : Type 0} (p : X → Bool) (xs ys : List X) → list_all p xs ≡ true → list_all p ys ≡ true → list_all p (xs ++ ys) ≡ true
all_both p xs ys h k = list_all-append p xs ys ∙ and_from _ _ h k

-- items that are told in two ways
pub flat_mapped : {A B X Y : Type 0} (f : A → List Y) (g : B → List X) (h : B → A) (v : X → Y) → ((b : B) → f (h b) ≡ map v (g b)) → (bs : List B) → flat_map f (map h bs) ≡ map v (flat_map g bs)
flat_mapped f g h v each [] = refl
flat_mapped f g h v each (b ∷ bs) =
    ap (λ front. front ++ flat_map f (map h bs)) (each b) ∙ ap (λ more. map v (g b) ++ more) (flat_mapped f g h v each bs) ∙ sym (map-append v (g b) (flat_map g bs))

-- what each item tells passes
pub all_told : {A X : Type 0} (P : A → Type 0) (g : A → List X) (p : X → Bool) → ((a : A) → P a → list_all p (g a) ≡ true) → (xs : List A) → AreAll P xs → list_all p (flat_map g xs) ≡ true
all_told P g p each [] all = refl
all_told P g p each (x ∷ xs) all = all_both p (g x) (flat_map g xs) (each x all.0) (all_told P g p each xs all.1)

-- where all that is told passes, so does each item
pub all_mapped : {A B X : Type 0} (P : B → Type 0) (g : B → List X) (h : B → A) (p : X → Bool) (q : A → Bool) → ((b : B) → P b → list_all p (g b) ≡ true → q (h b) ≡ true)
    → (bs : List B) → AreAll P bs → list_all p (flat_map g bs) ≡ true → list_all q (map h bs) ≡ true
all_mapped P g h p q each [] all told = refl
all_mapped P g h p q each (b ∷ bs) all told = let both = all_parts p (g b) (flat_map g bs) told in and_from _ _ (each b all.0 both.0) (all_mapped P g h p q each bs all.1 both.1)

-- there and back
pub map_back : {A B : Type 0} (f : A → B) (g : B → A) (q : A → Bool) → ((a : A) → q a ≡ true → g (f a) ≡ a) → (xs : List A) → list_all q xs ≡ true → map g (map f xs) ≡ xs
map_back f g q each [] h = refl
map_back f g q each (x ∷ xs) h = let both = and_parts _ _ h in ap (λ y. y ∷ map g (map f xs)) (each x both.0) ∙ ap (λ ys. x ∷ ys) (map_back f g q each xs both.1)

pub all_have : {A B : Type 0} (f : A → B) (q : A → Bool) (P : B → Type 0) → ((a : A) → q a ≡ true → P (f a)) → (xs : List A) → list_all q xs ≡ true → AreAll P (map f xs)
all_have f q P each [] h = tt
all_have f q P each (x ∷ xs) h = let both = and_parts _ _ h in (each x both.0, all_have f q P each xs both.1)

-- Lists of lists. What the items of all of them tell.
pub flat_twice : {A X : Type 0} (f : A → List X) (xss : List (List A)) → flat_map f (flat_map (λ xs. xs) xss) ≡ flat_map (λ xs. flat_map f xs) xss
flat_twice f [] = refl
flat_twice f (xs ∷ xss) = flat_map-append f xs (flat_map (λ xs. xs) xss) ∙ ap (λ more. flat_map f xs ++ more) (flat_twice f xss)

-- A list to which each item of another adds its part: with none, with one item more, and with all.
pub none_yet : {B : Type 0} (start : List B) → start ≡ start ++ []
none_yet start = sym (append-nil start)

pub one_more : {A B : Type 0} (parts : List A → List B) (xs : List A) (i : ℕ) (x d : A) (start old new part : List B) → old ≡ start ++ parts (take i xs) → new ≡ old ++ part → x ≡ get_or xs i d → i < length xs
    → ((ys : List A) → parts (ys ++ x ∷ []) ≡ parts ys ++ part) → new ≡ start ++ parts (take (i + 1) xs)
one_more parts xs i x d start old new part before added is less last =
    let here : take (i + 1) xs ≡ take i xs ++ x ∷ [] = take_more xs i d less ∙ ap (λ y. take i xs ++ y ∷ []) (sym is) in
    added ∙ ap (λ l. l ++ part) before ∙ append_assoc start (parts (take i xs)) part ∙ ap (λ l. start ++ l) (sym (last (take i xs)) ∙ ap parts (sym here))

pub all_are : {A B : Type 0} (parts : List A → List B) (xs : List A) (i : ℕ) (start new : List B) → new ≡ start ++ parts (take i xs) → length xs ≤ i → new ≡ start ++ parts xs
all_are parts xs i start new before end = before ∙ ap (λ ys. start ++ parts ys) (take_all i xs end)

-- the parts of a list with one item more
pub last_mapped : {A B : Type 0} (f : A → B) (ys : List A) (x : A) → map f (ys ++ x ∷ []) ≡ map f ys ++ f x ∷ []
last_mapped f [] x = refl
last_mapped f (y ∷ ys) x = ap (λ l. f y ∷ l) (last_mapped f ys x)

pub last_told : {A B : Type 0} (f : A → List B) (ys : List A) (x : A) → flat_map f (ys ++ x ∷ []) ≡ flat_map f ys ++ f x
last_told f [] x = append-nil (f x)
last_told f (y ∷ ys) x = ap (λ l. f y ++ l) (last_told f ys x) ∙ sym (append_assoc (f y) (flat_map f ys) (f x))
