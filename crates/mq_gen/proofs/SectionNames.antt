-- The names of sections are names, and distinct.
use Rattle.std.proofs.Common.{◌≡◌, ◌∙◌, refl, sym, subst, ℕ, zero, suc, ◌+◌, ◌-◌, ◌<◌, List, [], ◌∷◌, ◌++◌, Bool, true, arith}
use Rattle.std.specs.Fmt.{digits}
use Rattle.std.specs.List.{list_all}
use Rattle.std.specs.Str.{bytes_eq}
use Rattle.std.proofs.lemmas.Bool.{and_from, and_parts, not-true, not_from_false, or_parts}
use Rattle.std.proofs.lemmas.List.Folds.{list_all-append, list_any-append}
use Rattle.mq_core.specs.Names.{is_name}
use Rattle.mq_core.specs.Sound.{are_distinct}
use Rattle.mq_gen.specs.Made.{section_name, source_name}

-- the names of so many sections
abbrev pub section_names : ℕ → List (List ℕ)
section_names zero = []
section_names (suc count) = section_names count ++ section_name count ∷ []

-- the names of the sources and of so many sections
abbrev pub all_names : ℕ → List (List ℕ)
all_names count = source_name 0 ∷ source_name 1 ∷ section_names count

-- items in front are distinct where all are
pub distinct_front : {X : Type 0} (same : X → X → Bool) (xs ys : List X) → are_distinct same (xs ++ ys) ≡ true → are_distinct same xs ≡ true
distinct_front same [] ys h = refl
distinct_front same (x ∷ xs) ys h =
    let both = and_parts _ _ h in
    let none = or_parts _ _ (sym (list_any-append (same x) xs ys) ∙ not-true _ both.0) in
    and_from _ _ (not_from_false _ none.0) (distinct_front same xs ys both.1)

record AreNames (names : List (List ℕ)) : Type 0 where
  pub distinct : are_distinct bytes_eq names ≡ true
  pub named : list_all is_name names ≡ true

fewer : (left count : ℕ) → count + left ≡ 12 → AreNames (all_names count)
unfolding digits
fewer zero count is = let e : 12 ≡ count = omega arith in subst (λ n. AreNames (all_names n)) e (record { distinct = refl; named = refl })
fewer (suc left) count is =
    let more = fewer left (suc count) (omega arith) in
    record {
      distinct = distinct_front bytes_eq (all_names count) (section_name count ∷ []) more.distinct;
      named = (and_parts _ _ (sym (list_all-append is_name (all_names count) (section_name count ∷ [])) ∙ more.named)).0;
    }

pub names_distinct : (count : ℕ) → count < 13 → are_distinct bytes_eq (all_names count) ≡ true
names_distinct count low = (fewer (12 - count) count (omega arith)).distinct

pub section_named : (count : ℕ) → count < 12 → is_name (section_name count) ≡ true
section_named count low =
    let more = fewer (11 - count) (suc count) (omega arith) in
    let both = and_parts _ _ (sym (list_all-append is_name (all_names count) (section_name count ∷ [])) ∙ more.named) in
    (and_parts _ _ both.1).0
