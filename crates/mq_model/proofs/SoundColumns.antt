-- Names in order of first mention: they are distinct, and their numbers are mentioned in order.
use Rattle.std.proofs.Common.{◌≡◌, ◌∙◌, sym, ap, refl, subst, suc, ◌<◌, List, [], ◌∷◌, ◌++◌, length, Bool, true, false, arith, inl, inr, append_assoc, length-append}
use Rattle.std.specs.Prelude.{map}
use Rattle.std.specs.List.{list_any, list_all, position_or_len}
use Rattle.std.specs.Str.{bytes_eq}
use Rattle.std.proofs.lemmas.Bool.{cases_Bool, and_parts, and_from, or_parts, or_from, not-true, not_from_false, ne_eqb, eq-eqb, lt-ltb}
use Rattle.std.proofs.lemmas.List.{append-nil}
use Rattle.std.proofs.lemmas.List.Folds.{list_any-append}
use Rattle.std.proofs.lemmas.Slice.Eq.{bytes_eq-Decides}
use Rattle.mq_core.specs.Sound.{are_distinct, mentions_from}
use Rattle.mq_model.specs.Form.{Word}
use Rattle.mq_model.specs.NetworkOf.{number_in}
use Rattle.mq_model.specs.Said.{is_among, distinct_after}

pub name_is : (a b : Word) → bytes_eq a b ≡ true → a ≡ b
name_is a b h = (bytes_eq-Decides a b).0 h

pub same_name : (a : Word) → bytes_eq a a ≡ true
same_name a = (bytes_eq-Decides a a).1 refl

pub bytes_eq_comm : (a b : Word) → bytes_eq a b ≡ true → bytes_eq b a ≡ true
bytes_eq_comm a b h = (bytes_eq-Decides b a).1 (sym (name_is a b h))

-- one more item, unlike those before it
pub are_distinct_push : {X : Type 0} (same : X → X → Bool) (xs : List X) (y : X) → are_distinct same xs ≡ true → list_any (λ x. same x y) xs ≡ false → are_distinct same (xs ++ y ∷ []) ≡ true
are_distinct_push same [] y h new = refl
are_distinct_push same (x ∷ xs) y h new =
    let (here, later) = and_parts _ _ h in
    let (other, others) = or_parts _ _ new in
    let none : list_any (same x) (xs ++ y ∷ []) ≡ false = list_any-append (same x) xs (y ∷ []) ∙ or_from _ _ (not-true _ here) (or_from _ _ other refl) in
    and_from _ _ (not_from_false _ none) (are_distinct_push same xs y later others)

-- the names that are new come once each
pub are_distinct_after : (before names : List Word) → are_distinct bytes_eq before ≡ true → are_distinct bytes_eq (before ++ distinct_after before names) ≡ true
unfolding distinct_after
are_distinct_after before [] h = rw (append-nil before) h
are_distinct_after before (name ∷ more) h =
    elim (cases_Bool (is_among before name)) [
      | inl known ↦ rw known (are_distinct_after before more h)
      | inr new ↦
          let again = are_distinct_after (before ++ name ∷ []) more (are_distinct_push bytes_eq before name h new) in
          rw new (subst (λ xs. are_distinct bytes_eq xs ≡ true) (append_assoc before (name ∷ []) (distinct_after (before ++ name ∷ []) more)) again)
    ]

pub list_all_after : (p : Word → Bool) (before names : List Word) → list_all p names ≡ true → list_all p (distinct_after before names) ≡ true
unfolding distinct_after
list_all_after p before [] h = refl
list_all_after p before (name ∷ more) h =
    let (here, later) = and_parts _ _ h in
    elim (cases_Bool (is_among before name)) [
      | inl known ↦ rw known (list_all_after p before more later)
      | inr new ↦ rw new (and_from _ _ here (list_all_after p (before ++ name ∷ []) more later))
    ]

-- where an item is found, it is found among the first ones
pub index_in_front : {X : Type 0} (p : X → Bool) (front rest : List X) → list_any p front ≡ true → position_or_len p (front ++ rest) < length front
index_in_front p [] rest h = absurd (cc)
index_in_front p (x ∷ front) rest h =
    elim (cases_Bool (p x)) [
      | inl here ↦ rw here (omega arith)
      | inr later ↦
          let some : list_any p front ≡ true = rw later at h in
          let again = index_in_front p front rest some in
          rw later (omega arith)
    ]

pub index_behind : {X : Type 0} (p : X → Bool) (front : List X) (x : X) (rest : List X) → list_any p front ≡ false → p x ≡ true → position_or_len p (front ++ x ∷ rest) ≡ length front
index_behind p [] x rest none here = rw here refl
index_behind p (y ∷ front) x rest none here =
    let (other, others) = or_parts (p y) (list_any p front) none in
    let again = index_behind p front x rest others here in
    rw (other, again) (omega arith)

-- the columns are mentioned in the order of their numbers
pub mentions_in_order : (before names columns : List Word) → columns ≡ before ++ distinct_after before names → mentions_from (length before) (length columns) (map (number_in columns) names) ≡ true
unfolding distinct_after
mentions_in_order before [] columns is = eq-eqb _ _ (ap length (sym (is ∙ append-nil before)))
mentions_in_order before (name ∷ more) columns is =
    elim (cases_Bool (is_among before name)) [
      | inl known ↦
          let is_so : columns ≡ before ++ distinct_after before more = rw known at is in
          let low : number_in columns name < length before = subst (λ cs. number_in cs name < length before) (sym is_so) (index_in_front (λ other. bytes_eq other name) before (distinct_after before more) known) in
          let again = mentions_in_order before more columns is_so in
          rw (ne_eqb (number_in columns name) (length before) (λ e. omega arith), lt-ltb (number_in columns name) (length before) low) again
      | inr new ↦
          let is_so : columns ≡ before ++ name ∷ distinct_after (before ++ name ∷ []) more = rw new at is in
          let here : number_in columns name ≡ length before = subst (λ cs. number_in cs name ≡ length before) (sym is_so) (index_behind (λ other. bytes_eq other name) before name (distinct_after (before ++ name ∷ []) more) new (same_name name)) in
          let again = mentions_in_order (before ++ name ∷ []) more columns (is_so ∙ sym (append_assoc before (name ∷ []) _)) in
          let count : length (before ++ name ∷ []) ≡ suc (length before) = length-append before (name ∷ []) ∙ omega arith in
          let later : mentions_from (suc (length before)) (length columns) (map (number_in columns) more) ≡ true = subst (λ n. mentions_from n (length columns) (map (number_in columns) more) ≡ true) count again in
          rw (eq-eqb (number_in columns name) (length before) here, later) refl
    ]
