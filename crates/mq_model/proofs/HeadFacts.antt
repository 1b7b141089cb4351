-- The version of a text, line by line, and the head that says it.
use Rattle.std.proofs.Common.{◌≡◌, ◌<◌, ◌≤◌, sym, refl, subst, ℕ, List, [], ◌∷◌, ◌++◌, length, true, false, arith, inl, inr}
use Rattle.std.specs.Prelude.{◌&&◌, ◌⊎◌, codes, decimal, nat_le, nat_lt}
use Rattle.std.specs.List.{list_all}
use Rattle.std.specs.Str.{bytes_eq}
use Rattle.std.proofs.lemmas.Bool.{cases_Bool, and_parts, leb-true, ltb-true, ltb-false}
use Rattle.std.proofs.lemmas.Fmt.{decimal_digit}
use Rattle.mq_base.specs.Text.{words_of}
use Rattle.mq_core.specs.Ranges.{is_within}
use Rattle.mq_model.specs.Form.{Word}
use Rattle.mq_model.specs.Head.{is_skipped, is_version, version_in, version_said}
use Rattle.mq_model.specs.Printed.{head_words}

-- behind the head the version stays
pub version_kept : (before more : List (List ℕ)) → list_all is_skipped before ≡ false → version_in (before ++ more) ≡ version_in before
version_kept [] more h = absurd (cc)
version_kept (l ∷ before) more h =
    elim (cases_Bool (is_skipped l)) [
      | inl skipped ↦ let later : list_all is_skipped before ≡ false = rw skipped at h in rw skipped (version_kept before more later)
      | inr kept ↦ rw kept refl
    ]

-- before it too
pub version_skipped : (before : List (List ℕ)) (l : List ℕ) → is_skipped l ≡ true → version_in (before ++ l ∷ []) ≡ version_in before
version_skipped [] l h = rw h refl
version_skipped (k ∷ before) l h =
    elim (cases_Bool (is_skipped k)) [
      | inl skipped ↦ rw skipped (version_skipped before l h)
      | inr kept ↦ rw kept refl
    ]

-- the head says it
pub version_first : (before : List (List ℕ)) (l : List ℕ) → list_all is_skipped before ≡ true → is_skipped l ≡ false → version_in (before ++ l ∷ []) ≡ version_said (words_of l)
version_first [] l all h = rw h refl
version_first (k ∷ before) l all h = let both = and_parts (is_skipped k) (list_all is_skipped before) all in rw both.0 (version_first before l both.1 h)

-- there are two
said_within : (ws : List Word) → is_within 1 2 (version_said ws) ≡ true
said_within [] = refl
said_within (w ∷ []) = refl
said_within (w ∷ v ∷ ws) = elim (cases_Bool (bytes_eq v (codes "2"))) [ inl two ↦ rw two refl | inr one ↦ rw one refl ]

pub version_within : (ls : List (List ℕ)) → is_within 1 2 (version_in ls) ≡ true
version_within [] = refl
version_within (l ∷ ls) =
    elim (cases_Bool (is_skipped l)) [
      | inl skipped ↦ rw skipped (version_within ls)
      | inr kept ↦ rw kept (said_within (words_of l))
    ]

one_or_two : (n : ℕ) → is_within 1 2 n ≡ true → (n ≡ 1) ⊎ (n ≡ 2)
one_or_two n h =
    let both = and_parts _ _ h in
    let some : 1 ≤ n = leb-true _ _ both.0 in
    let few : n ≤ 2 = leb-true _ _ both.1 in
    elim (cases_Bool (nat_lt n 2)) [
      | inl one ↦ let low : n < 2 = ltb-true _ _ one in inl (omega arith)
      | inr two ↦ let high : 2 ≤ n = ltb-false _ _ two in inr (omega arith)
    ]

-- a version's number is read as it
pub record IsRead (version : ℕ) : Type 0 where
  pub known : is_version (decimal version) ≡ true
  pub said : version_said (head_words version) ≡ version
  pub short : length (decimal version) ≡ 1
  pub visible : list_all (λ b. nat_lt 32 b && nat_le b 126) (decimal version) ≡ true

pub version_again : (version : ℕ) → is_within 1 2 version ≡ true → IsRead version
version_again version h = elim (one_or_two version h) [ inl one ↦ subst IsRead (sym one) first | inr two ↦ subst IsRead (sym two) second ]
  where
    first : IsRead 1
    first = let digit = decimal_digit 1 (omega arith) in record { known = rw digit refl; said = rw digit refl; short = rw digit refl; visible = rw digit refl }

    second : IsRead 2
    second = let digit = decimal_digit 2 (omega arith) in record { known = rw digit refl; said = rw digit refl; short = rw digit refl; visible = rw digit refl }
