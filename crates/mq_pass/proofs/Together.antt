-- The departures of all blocks, one block after another, are those of all jobs.
use Rattle.std.proofs.Common.{◌≡◌, ℕ, zero, suc, ◌+◌, ◌-◌, ◌*◌, ◌<◌, ◌≤◌, List, [], ◌∷◌, ◌++◌, length, drop, min, max, sym, ap, ◌∙◌, subst, arith, append_assoc, Option, Some, None, IfSome, get_or}
use Rattle.std.specs.Prelude.{slice_get, slice_range}
use Rattle.std.proofs.lemmas.List.{append-nil, drop_more, drop_all}
use Rattle.mq_base.proofs.lemmas.Lists.{drop_at, some_inj}
use Rattle.mq_chain.specs.Words.{value_of}
use Rattle.mq_core.specs.Recurrences.{lindley}
use Rattle.mq_pass.proofs.Serving.{range-cons, range-none, act-next, begins}
use Rattle.mq_pass.specs.Blocks.{carry_at, departs_of}
use Rattle.mq_pass.specs.Passing.{AreApplied, if_left, left_from}
use Rattle.mq_pass.specs.declared.block.Passed.{Passed}

module _ (times demands : List ℕ) (each : length demands ≡ length times) where
  -- the last departure before an index, or 0
  abbrev Last : ℕ → ℕ
  Last n = value_of (carry_at times demands n)

  last-next : (n : ℕ) → Last (n + 1) ≡ max (get_or times n 0) (Last n) + get_or demands n 0
  last-next n = ap Last {x = n + 1} {y = suc n} (omega arith) ∙ ap value_of (act-next (carry_at times demands n) (get_or times n 0) (get_or demands n 0))

  -- the departures from an index on
  abbrev Rest : ℕ → List ℕ
  Rest n = lindley (Last n) (drop n times) (drop n demands)

  rest-next : (n : ℕ) → n < length times → Rest n ≡ Last (n + 1) ∷ Rest (n + 1)
  rest-next n lt =
      (λ k. lindley (Last n) (drop_more times n 0 lt k) (drop_more demands n 0 (omega arith) k))
      ∙ ap (λ (x : ℕ). x ∷ lindley x (drop (n + 1) times) (drop (n + 1) demands)) (sym (last-next n))

  -- the departures of a range
  abbrev Part : ℕ → ℕ → List ℕ
  Part from to = lindley (Last from) (slice_range times from to) (slice_range demands from to)

  part-next : (from to : ℕ) → from < to → to ≤ length times → Part from to ≡ Last (from + 1) ∷ Part (from + 1) to
  part-next from to lt le =
      (λ k. lindley (Last from) (range-cons times from to lt le k) (range-cons demands from to lt (omega arith) k))
      ∙ ap (λ (x : ℕ). x ∷ lindley x (slice_range times (from + 1) to) (slice_range demands (from + 1) to)) (sym (last-next from))

  part-rest : (k from to : ℕ) → from + k ≡ to → to ≤ length times → Rest from ≡ Part from to ++ Rest to
  part-rest zero from to e le =
      let same : from ≡ to = omega arith in
      ap Rest same ∙ sym (ap (λ (xs : List ℕ). lindley (Last from) xs (slice_range demands from to) ++ Rest to) (range-none times from to (omega arith)))
  part-rest (suc k) from to e le =
      rest-next from (omega arith) ∙ (ap (λ (xs : List ℕ). Last (from + 1) ∷ xs) (part-rest k (from + 1) to (omega arith) le) ∙ sym (ap (λ (xs : List ℕ). xs ++ Rest to) (part-next from to (omega arith) le)))

  -- the departures of one block more
  pub block-next : (block blocks b : ℕ) (done done' l all : List ℕ) → 1 ≤ block → b < blocks → blocks * block < length times + block → l ≡ departs_of times demands block b (carry_at times demands (b * block)) → done' ≡ done ++ l
      → done ++ Rest (min (b * block) (length times)) ≡ all → done' ++ Rest (min ((b + 1) * block) (length times)) ≡ all
  block-next block blocks b done done' l all some lt less is pushed so_far =
      let inside = begins b block blocks (length times) lt less in
      let here : min (b * block) (length times) ≡ b * block = omega arith in
      let e : (b + 1) * block ≡ b * block + block = omega arith in
      let to : ℕ = min ((b + 1) * block) (length times) in
      let split : Rest (b * block) ≡ l ++ Rest to = part-rest (to - b * block) (b * block) to (omega arith) (omega arith) ∙ ap (λ (xs : List ℕ). xs ++ Rest to) (sym is) in
      ap (λ (xs : List ℕ). xs ++ Rest to) pushed ∙ (append_assoc done l (Rest to) ∙ (ap (λ (xs : List ℕ). done ++ xs) (sym split) ∙ (ap (λ (n : ℕ). done ++ Rest n) (sym here) ∙ so_far)))

  -- behind the last block nothing is left
  pub blocks-all : (block blocks b : ℕ) (done all : List ℕ) → length times ≤ blocks * block → b ≡ blocks → done ++ Rest (min (b * block) (length times)) ≡ all → done ≡ all
  blocks-all block blocks b done all covers e so_far =
      let end : b * block ≡ blocks * block = ap (λ (n : ℕ). n * block) e in
      let last : length times ≤ min (b * block) (length times) = omega arith in
      sym (append-nil done) ∙ (ap (λ (xs : List ℕ). done ++ lindley (Last (min (b * block) (length times))) xs (drop (min (b * block) (length times)) demands)) (sym (drop_all (min (b * block) (length times)) times last)) ∙ so_far)

-- the numbers that are left: the next one is that of a block that has no departures
pub number-here : (parts : List Passed) (b : ℕ) (p : Passed) (numbers : List ℕ) (next : ℕ) → slice_get parts b ≡ Some p → p.departs ≡ None → drop next numbers ≡ left_from b (drop b parts) → slice_get numbers next ≡ Some b
number-here parts b p numbers next at none left = first numbers next (left_from (suc b) (drop (b + 1) parts)) (left ∙ (ap (left_from b) (drop_at parts b p at) ∙ ap (λ (o : Option (List ℕ)). if_left b o (left_from (suc b) (drop (b + 1) parts))) none))
  where
    first : (xs : List ℕ) (i : ℕ) (rest : List ℕ) → drop i xs ≡ b ∷ rest → slice_get xs i ≡ Some b
    first [] zero rest e = absurd cc
    first [] (suc i) rest e = absurd cc
    first (x ∷ xs) zero rest e = cc
    first (x ∷ xs) (suc i) rest e = first xs i rest e

pub number-kept : (parts : List Passed) (b : ℕ) (p : Passed) (l : List ℕ) (numbers : List ℕ) (next : ℕ) → slice_get parts b ≡ Some p → p.departs ≡ Some l → drop next numbers ≡ left_from b (drop b parts) → drop next numbers ≡ left_from (b + 1) (drop (b + 1) parts)
number-kept parts b p l numbers next at some left =
    let more : suc b ≡ b + 1 = omega arith in
    left ∙ (ap (left_from b) (drop_at parts b p at) ∙ (ap (λ (o : Option (List ℕ)). if_left b o (left_from (suc b) (drop (b + 1) parts))) some ∙ ap (λ (n : ℕ). left_from n (drop (b + 1) parts)) more))

pub number-taken : (parts : List Passed) (b : ℕ) (p : Passed) (numbers : List ℕ) (next : ℕ) → slice_get parts b ≡ Some p → p.departs ≡ None → drop next numbers ≡ left_from b (drop b parts) → drop (next + 1) numbers ≡ left_from (b + 1) (drop (b + 1) parts)
number-taken parts b p numbers next at none left =
    let more : suc b ≡ b + 1 = omega arith in
    rest-of numbers next (left_from (suc b) (drop (b + 1) parts)) (left ∙ (ap (left_from b) (drop_at parts b p at) ∙ ap (λ (o : Option (List ℕ)). if_left b o (left_from (suc b) (drop (b + 1) parts))) none))
    ∙ ap (λ (n : ℕ). left_from n (drop (b + 1) parts)) more
  where
    rest-of : (xs : List ℕ) (i : ℕ) (rest : List ℕ) → drop i xs ≡ b ∷ rest → drop (i + 1) xs ≡ rest
    rest-of [] zero rest e = absurd cc
    rest-of [] (suc i) rest e = absurd cc
    rest-of (x ∷ xs) zero rest e = cc
    rest-of (x ∷ xs) (suc i) rest e = let more : suc i + 1 ≡ suc (i + 1) = omega arith in ap (λ (n : ℕ). drop n (x ∷ xs)) more ∙ rest-of xs i rest e

pub right-some : (o : Option (List ℕ)) (l x : List ℕ) → o ≡ Some l → IfSome o (λ l. l ≡ x) → l ≡ x
right-some o l x is right = subst (λ (z : Option (List ℕ)). IfSome z (λ l. l ≡ x)) is right

-- a block that was left has its departures at the next index
pub applied-here : (times demands : List ℕ) (block : ℕ) (parts : List Passed) (applied : List (List ℕ)) (b next : ℕ) (p : Passed) → AreApplied times demands block (left_from 0 parts) applied → slice_get parts b ≡ Some p → p.departs ≡ None
    → drop next (left_from 0 parts) ≡ left_from b (drop b parts) → slice_get applied next ≡ Some (departs_of times demands block b (carry_at times demands (b * block)))
applied-here times demands block parts applied b next p all at none numbers = all next b (number-here parts b p (left_from 0 parts) next at none numbers)

pub applied-is : (times demands : List ℕ) (block : ℕ) (parts : List Passed) (applied : List (List ℕ)) (b next : ℕ) (p : Passed) (l : List ℕ) → AreApplied times demands block (left_from 0 parts) applied → slice_get parts b ≡ Some p → p.departs ≡ None
    → drop next (left_from 0 parts) ≡ left_from b (drop b parts) → slice_get applied next ≡ Some l → l ≡ departs_of times demands block b (carry_at times demands (b * block))
applied-is times demands block parts applied b next p l all at none numbers found = some_inj _ _ (sym found ∙ applied-here times demands block parts applied b next p all at none numbers)
