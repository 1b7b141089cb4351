-- Files that are read one after another. In each lemma a, b and c are the files at first, then, and at last.
use Rattle.std.proofs.Common.{◌≡◌, ◌∙◌, sym, ap, refl, subst, ℕ, zero, suc, ◌+◌, ◌^◌, ◌<◌, ◌≤◌, Bool, true, false, List, [], ◌∷◌, ◌++◌, length, take, Option, Some, None, arith, length-append, true≢false}
use Rattle.std.proofs.lemmas.Bool.{and_parts}
use Rattle.std.proofs.lemmas.List.{length-take-le}
use Rattle.std.specs.List.{list_all}
use Rattle.mq_outside.specs.Outside.{Rose, next_count}
use Rattle.mq_outside.specs.Reading.{IsReadCount, ReadsFirst, ReadsNames, Reading, counted, is_unread, last_of}
use Rattle.mq_outside.specs.Reading.Reading.{Through, UpTo, FailedAt, Anywhere}

-- ---- names that were read

counted_both : (j k n : ℕ) → counted (j + k) n ≡ counted j (counted k n)
counted_both zero k n = let e : 0 + k ≡ k = omega arith in ap (λ m. counted m n) e
counted_both (suc j) k n = let e : suc j + k ≡ suc (j + k) = omega arith in ap (λ m. counted m n) e ∙ ap next_count (counted_both j k n)

last_behind : (names : List (List ℕ)) (name : List ℕ) (more : List (List ℕ)) → last_of (names ++ name ∷ more) ≡ last_of (name ∷ more)
last_behind [] name more = refl
last_behind (first ∷ []) name more = refl
last_behind (first ∷ next ∷ names) name more = last_behind (next ∷ names) name more

-- some are read, none of which failed, and then further ones
pub reads_both : {F : Type 0} (told : F → List ℕ → Option (List ℕ)) (is_sure : F → List ℕ → Bool) (reads faults : F → ℕ) (a b c : F) (names : List (List ℕ)) (name : List ℕ) (more : List (List ℕ)) (failed : Bool)
    → ReadsNames told is_sure reads faults a b names false → ReadsNames told is_sure reads faults b c (name ∷ more) failed → ReadsNames told is_sure reads faults a c (names ++ name ∷ more) failed
reads_both told is_sure reads faults a b c names name more failed h k =
    let still : faults b ≡ faults a = h.quiet refl in
    let long : length (names ++ name ∷ more) ≡ length (name ∷ more) + length names = length-append names (name ∷ more) ∙ omega arith in
    record {
      counts = k.counts ∙ ap (counted (length (name ∷ more))) h.counts ∙ sym (counted_both (length (name ∷ more)) (length names) (reads a)) ∙ ap (λ n. counted n (reads a)) (sym long);
      later = omega (arith, h.later, k.later);
      at = k.at;
      rose = λ e. subst (λ n. Rose n (faults c)) still (k.rose e);
      quiet = λ e. k.quiet e ∙ still;
      sure = λ last is sure. k.sure last (sym (last_behind names name more) ∙ is) (h.same_sure last ∙ sure) ∙ still;
      same_told = λ n. k.same_told n ∙ h.same_told n;
      same_sure = λ n. k.same_sure n ∙ h.same_sure n;
    }

-- none is read
pub reads_none : {F : Type 0} (told : F → List ℕ → Option (List ℕ)) (is_sure : F → List ℕ → Bool) (reads faults : F → ℕ) (a : F) → ReadsNames told is_sure reads faults a a [] false
reads_none told is_sure reads faults a = record {
  counts = refl;
  later = omega arith;
  at = λ e. absurd (true≢false (sym e));
  rose = λ e. absurd (true≢false (sym e));
  quiet = λ _. refl;
  sure = λ _ _ _. refl;
  same_told = λ _. refl;
  same_sure = λ _. refl;
}

-- a count that is far from its end rises by one with each read
pub counted_few : (n count : ℕ) → n ≤ 65 → count < 2 ^ 63 → counted n count ≡ count + n
counted_few zero count small few = omega arith
counted_few (suc n) count small few = let h : counted n count ≡ count + n = counted_few n count (omega arith) few in omega arith

-- ---- how far a call came

-- no more names are read than there are
pub count_within : (reading : Reading) (all count : ℕ) → IsReadCount reading all count → count ≤ all
count_within Through all count h = omega (arith, h)
count_within (UpTo word) all count h = omega (arith, h.0, h.2)
count_within (FailedAt word) all count h = omega (arith, h.0, h.2)
count_within Anywhere all count h = h

-- names of which one failed are some
count_some : (reading : Reading) (all count : ℕ) → IsReadCount reading all count → is_unread reading ≡ true → 1 ≤ count
count_some Through all count h e = absurd (true≢false (sym e))
count_some (UpTo word) all count h e = absurd (true≢false (sym e))
count_some (FailedAt word) all count h e = omega (arith, h.0, h.1)
count_some Anywhere all count h e = absurd (true≢false (sym e))

last_is : (names : List (List ℕ)) → 1 ≤ length names → (name : List ℕ) × (last_of names ≡ Some name)
last_is [] some = absurd (omega (arith, some))
last_is (name ∷ []) some = (name, refl)
last_is (name ∷ next ∷ names) some = last_is (next ∷ names) (omega arith)

-- all names are sure, and so is the last that was read
all_last : (sure : List ℕ → Bool) (names : List (List ℕ)) (n : ℕ) (last : List ℕ) → list_all sure names ≡ true → last_of (take n names) ≡ Some last → sure last ≡ true
all_last sure names zero last all is = absurd (cc is)
all_last sure [] (suc n) last all is = absurd (cc is)
all_last sure (name ∷ names) (suc zero) last all is = let same : name ≡ last = cc is in subst (λ x. sure x ≡ true) same (and_parts _ _ all).0
all_last sure (name ∷ []) (suc (suc n)) last all is = let same : name ≡ last = cc is in subst (λ x. sure x ≡ true) same (and_parts _ _ all).0
all_last sure (name ∷ next ∷ names) (suc (suc n)) last all is = all_last sure (next ∷ names) (suc n) last (and_parts _ _ all).1 is

module _ {F : Type 0} (told : F → List ℕ → Option (List ℕ)) (is_sure : F → List ℕ → Bool) (reads faults : F → ℕ) (a b : F) (names : List (List ℕ)) (reading : Reading) (h : ReadsFirst told is_sure reads faults a b names reading) where
  -- how often files were read
  pub first_counts : reads b ≡ counted h.count (reads a)
  first_counts = h.first.counts ∙ ap (λ n. counted n (reads a)) (length-take-le h.count names (count_within reading (length names) h.count h.is_count))

  -- where the last name is sure that was read, whatever it is, no fault was counted
  pub first_sure : ((last : List ℕ) → last_of (take h.count names) ≡ Some last → is_sure a last ≡ true) → faults b ≡ faults a
  first_sure sure = by_failure (is_unread reading) refl
    where
      by_failure : (failed : Bool) → is_unread reading ≡ failed → faults b ≡ faults a
      by_failure false e = h.first.quiet e
      by_failure true e =
          let some : 1 ≤ h.count = count_some reading (length names) h.count h.is_count e in
          let long : length (take h.count names) ≡ h.count = length-take-le h.count names (count_within reading (length names) h.count h.is_count) in
          let (last, is) = last_is (take h.count names) (omega arith) in
          h.first.sure last is (sure last is)

  -- so it is where all names are sure
  pub first_all_sure : list_all (is_sure a) names ≡ true → faults b ≡ faults a
  first_all_sure all = first_sure (λ last is. all_last (is_sure a) names h.count last all is)

-- ---- the names of a call

module _ {F : Type 0} (told : F → List ℕ → Option (List ℕ)) (is_sure : F → List ℕ → Bool) (reads faults : F → ℕ) where
  -- there are some
  pub reads_some : (a b : F) (names : List (List ℕ)) (name : List ℕ) (more : List (List ℕ)) (reading : Reading) (count : ℕ) → names ≡ name ∷ more → IsReadCount reading (length (name ∷ more)) count
      → ReadsNames told is_sure reads faults a b (take count (name ∷ more)) (is_unread reading) → ReadsFirst told is_sure reads faults a b names reading
  reads_some a b names name more reading count is at h = record {
    count = count;
    is_count = subst (λ ns. IsReadCount reading (length ns) count) (sym is) at;
    first = subst (λ ns. ReadsNames told is_sure reads faults a b (take count ns) (is_unread reading)) (sym is) h;
    unread = λ none. let none' : name ∷ more ≡ [] = sym is ∙ none in absurd (cc none');
  }

  -- none was read
  pub reads_nothing : (a : F) (names : List (List ℕ)) (reading : Reading) → IsReadCount reading (length names) 0 → ReadsFirst told is_sure reads faults a a names reading
  reads_nothing a names reading at = record {
    count = 0;
    is_count = at;
    first = subst (ReadsNames told is_sure reads faults a a []) (sym (not_failed reading (length names) at)) (reads_none told is_sure reads faults a);
    unread = λ _. refl;
  }
    where
      not_failed : (reading : Reading) (all : ℕ) → IsReadCount reading all 0 → is_unread reading ≡ false
      not_failed Through all h = refl
      not_failed (UpTo word) all h = refl
      not_failed (FailedAt word) all h = absurd (omega (arith, h.0, h.1))
      not_failed Anywhere all h = refl
