-- From numbers to names and back.
use Rattle.std.proofs.Common.{◌≡◌, ◌∙◌, sym, ap, refl, subst, ℕ, zero, suc, ◌+◌, ◌<◌, ◌≤◌, List, [], ◌∷◌, ◌++◌, length, get_or, Bool, true, false, arith, inl, inr, append_assoc, length-append}
use Rattle.std.specs.Prelude.{map, ◌&&◌, ◌||◌, ◌==◌, nat_lt}
use Rattle.std.specs.List.{list_any}
use Rattle.std.specs.Str.{bytes_eq}
use Rattle.std.proofs.lemmas.Bool.{both_ways, and_parts, or_parts, or_cases, eqb-true, ltb-true, not-true, false_from_ne_true}
use Rattle.std.proofs.lemmas.List.{append-nil}
use Rattle.std.proofs.lemmas.List.Folds.{list_any-append, list_any_at}
use Rattle.mq_core.specs.Sound.{are_distinct, mentions_from}
use Rattle.mq_model.specs.Form.{Word}
use Rattle.mq_model.specs.NetworkOf.{number_in}
use Rattle.mq_model.specs.Said.{is_among, distinct_after}
use Rattle.mq_model.specs.SaidOf.{name_at}
use Rattle.mq_model.proofs.SoundColumns.{same_name}

-- the number of the n-th of distinct names is n
pub number_again : (names : List Word) (n : ℕ) (d : Word) → are_distinct bytes_eq names ≡ true → n < length names → number_in names (get_or names n d) ≡ n
number_again [] n d distinct h = absurd (omega arith)
number_again (name ∷ names) zero d distinct h = rw (same_name name) refl
number_again (name ∷ names) (suc n) d distinct h =
    let alone = and_parts _ _ distinct in
    let below : n < length names = omega arith in
    let other : bytes_eq name (get_or names n d) ≡ false = false_from_ne_true _ (λ same. both_ways _ (not-true _ alone.0) (list_any_at (bytes_eq name) names n d below same)) in
    let again = number_again names n d alone.1 below in
    rw other (omega arith)

-- the items before one of distinct items are other items
pub others_before : {X : Type 0} (same : X → X → Bool) (front : List X) (x : X) (back : List X) → are_distinct same (front ++ x ∷ back) ≡ true → list_any (λ y. same y x) front ≡ false
others_before same [] x back distinct = refl
others_before same (y ∷ front) x back distinct =
    let alone = and_parts _ _ distinct in
    let none : (list_any (same y) front || list_any (same y) (x ∷ back)) ≡ false = sym (list_any-append (same y) front (x ∷ back)) ∙ not-true _ alone.0 in
    let behind : (same y x || list_any (same y) back) ≡ false = (or_parts _ _ none).1 in
    let here : same y x ≡ false = (or_parts _ _ behind).0 in
    rw here (others_before same front x back alone.1)

-- mentions start within the columns
pub mentions_within : (next columns : ℕ) (mentions : List ℕ) → mentions_from next columns mentions ≡ true → next ≤ columns
mentions_within next columns [] h = let same = eqb-true next columns h in omega arith
mentions_within next columns (column ∷ more) h =
    elim (or_cases ((column == next) && mentions_from (suc next) columns more) (nat_lt column next && mentions_from next columns more) h) [
      | inl new ↦ let later : suc next ≤ columns = mentions_within (suc next) columns more (and_parts _ _ new).1 in omega arith
      | inr known ↦ mentions_within next columns more (and_parts _ _ known).1
    ]

get_in_front : (front back : List Word) (n : ℕ) (d : Word) → n < length front → get_or (front ++ back) n d ≡ get_or front n d
get_in_front [] back n d h = absurd (omega arith)
get_in_front (x ∷ front) back zero d h = refl
get_in_front (x ∷ front) back (suc n) d h = get_in_front front back n d (omega arith)

get_behind : (front : List Word) (x : Word) (back : List Word) (d : Word) → get_or (front ++ x ∷ back) (length front) d ≡ x
get_behind [] x back d = refl
get_behind (y ∷ front) x back d = get_behind front x back d

-- columns that are mentioned in the order of their numbers are the names in order of first mention
pub columns_again : (front back columns : List Word) (mentions : List ℕ) → columns ≡ front ++ back → are_distinct bytes_eq columns ≡ true → mentions_from (length front) (length columns) mentions ≡ true
    → distinct_after front (map (name_at columns) mentions) ≡ back
unfolding distinct_after
columns_again front back columns [] is distinct h =
    let all : length front ≡ length columns = eqb-true (length front) (length columns) h in
    let parts : length columns ≡ length front + length back = ap length is ∙ length-append front back in
    none back (omega arith)
  where
    none : (xs : List Word) → length xs ≡ 0 → [] ≡ xs
    none [] e = refl
    none (x ∷ xs) e = absurd (omega arith)
columns_again front back columns (column ∷ more) is distinct h =
    elim (or_cases ((column == length front) && mentions_from (suc (length front)) (length columns) more) (nat_lt column (length front) && mentions_from (length front) (length columns) more) h) [
      | inl new ↦ let both = and_parts _ _ new in first back is (eqb-true column (length front) both.0) both.1
          (λ name rest is_so said. columns_again (front ++ name ∷ []) rest columns more (is_so ∙ sym (append_assoc front (name ∷ []) rest)) distinct said)
      | inr known ↦
          let both = and_parts _ _ known in
          let below = ltb-true column (length front) both.0 in
          let name_so : name_at columns column ≡ get_or front column [] = subst (λ cs. name_at cs column ≡ get_or front column []) (sym is) (get_in_front front back column [] below) in
          let among : is_among front (name_at columns column) ≡ true = list_any_at (λ other. bytes_eq other (name_at columns column)) front column [] below (rw name_so (same_name (get_or front column []))) in
          rw among (columns_again front back columns more is distinct both.1)
    ]
  where
    first : (back : List Word) → columns ≡ front ++ back → column ≡ length front → mentions_from (suc (length front)) (length columns) more ≡ true
        → ((name : Word) (rest : List Word) → columns ≡ front ++ name ∷ rest → mentions_from (length (front ++ name ∷ [])) (length columns) more ≡ true → distinct_after (front ++ name ∷ []) (map (name_at columns) more) ≡ rest)
        → distinct_after front (map (name_at columns) (column ∷ more)) ≡ back
    first [] is here said again =
        let within = mentions_within (suc (length front)) (length columns) more said in
        let all : length columns ≡ length front = ap length (is ∙ append-nil front) in
        absurd (omega arith)
    first (name ∷ rest) is here said again =
        let name_so : name_at columns column ≡ name = rw (here, is) (get_behind front name rest []) in
        let new : is_among front name ≡ false = others_before bytes_eq front name rest (subst (λ cs. are_distinct bytes_eq cs ≡ true) is distinct) in
        let count : suc (length front) ≡ length (front ++ name ∷ []) = omega arith ∙ sym (length-append front (name ∷ [])) in
        rw (name_so, new) (ap (λ more. name ∷ more) (again name rest is (subst (λ n. mentions_from n (length columns) more ≡ true) count said)))
