-- The rows of what is kept.
use Rattle.std.proofs.Common.{◌≡◌, ℕ, suc, ◌+◌, ◌-◌, ◌*◌, ◌<◌, ◌≤◌, List, [], ◌∷◌, All, get_or, length, drop, sum, Some, refl, sym, ap, ◌∙◌, subst, arith}
use Rattle.std.specs.Prelude.{slice_get}
use Rattle.std.proofs.lemmas.List.{drop_all, length-drop, get_or-drop}
use Rattle.std.proofs.lemmas.List.Elements.{All-cons, All-get_or, All-head, All-tail}
use Rattle.std.proofs.lemmas.Option.{get_or_from_slice_get, slice_get_within}
use Rattle.mq_base.proofs.lemmas.Lists.{drop_at, sum-cons}
use Rattle.mq_maxplus.specs.declared.mp.Mp.{Mp}
use Rattle.mq_maxplus.specs.declared.mp.Mp.TheVariants.{Void}
use Rattle.mq_maxplus.specs.Matrices.{entry}
use Rattle.mq_tandem.specs.Rows.{kept, last_row, zero_row, room_row}

-- How many there are.
pub rows-begin : (places : List ℕ) → 1 ≤ length places → 2 + sum (drop 1 places) ≡ zero_row places + 1
rows-begin [] l = absurd (omega arith)
rows-begin (count ∷ more) l = let e = sum-cons 1 more in omega arith

pub zero-some : (places : List ℕ) → 2 ≤ length places → 1 ≤ zero_row places
zero-some [] l = absurd (omega arith)
zero-some (count ∷ more) l = let e = sum-cons 1 more in omega arith

pub rows-next : (places : List ℕ) (rows stage count all : ℕ) → slice_get places stage ≡ Some count → rows + sum (drop stage places) ≡ all → rows + count + sum (drop (stage + 1) places) ≡ all
rows-next places rows stage count all at h =
    let e : sum (drop stage places) ≡ count + sum (drop (stage + 1) places) = ap sum (drop_at places stage count at) ∙ sum-cons count (drop (stage + 1) places) in
    omega arith

pub rows-end : (places : List ℕ) (rows stage all : ℕ) → length places ≤ stage → rows + sum (drop stage places) ≡ all → rows ≡ all
rows-end places rows stage all l h = let e : sum (drop stage places) ≡ 0 = ap sum (drop_all stage places l) in omega arith

few-sum : (xs : List ℕ) → All (λ count. count ≤ 4) xs → sum xs ≤ 4 * length xs
few-sum [] h = omega arith
few-sum (x ∷ xs) h =
    let first : x ≤ 4 = All-head (λ count. count ≤ 4) x xs h in
    let rest = few-sum xs (All-tail (λ count. count ≤ 4) x xs h) in
    let e = sum-cons x xs in
    omega arith

pub rows-few : (places : List ℕ) → 1 ≤ length places → length places ≤ 4 → All (λ count. count ≤ 4) (drop 1 places) → zero_row places + 1 ≤ 14
rows-few places some few narrow =
    let a = rows-begin places some in
    let b = few-sum (drop 1 places) narrow in
    let c = length-drop 1 places in
    omega arith

-- When a stage has room.
pub room-there : (places : List ℕ) (rows : List Mp) (stage count row : ℕ) → slice_get places stage ≡ Some count → entry rows (row + (count - 1)) ≡ room_row (drop stage places) (drop row rows)
room-there places rows stage count row at =
    sym (ap (λ (left : List ℕ). room_row left (drop row rows)) (drop_at places stage count at) ∙ get_or-drop row rows (count - 1) Void)

pub room-inside : (places : List ℕ) (stage count row all : ℕ) → slice_get places stage ≡ Some count → All (λ n. 1 ≤ n) (drop stage places) → row + sum (drop stage places) < all → (1 ≤ count) × (row + count < all)
room-inside places stage count row all at some l =
    let first : 1 ≤ count = All-head (λ n. 1 ≤ n) count (drop (stage + 1) places) (subst (All (λ n. 1 ≤ n)) (drop_at places stage count at) some) in
    let e : sum (drop stage places) ≡ count + sum (drop (stage + 1) places) = ap sum (drop_at places stage count at) ∙ sum-cons count (drop (stage + 1) places) in
    (first, omega arith)

-- The stages behind the first are kept as they are.
pub kept-drop : (places : List ℕ) (stage : ℕ) → drop (stage + 1) (kept places) ≡ drop (stage + 1) places
kept-drop places stage = let next : suc stage ≡ stage + 1 = omega arith in sym (ap (λ (n : ℕ). drop n (kept places)) next) ∙ (behind places ∙ ap (λ (n : ℕ). drop n places) next)
  where
    behind : (places : List ℕ) → drop (suc stage) (kept places) ≡ drop (suc stage) places
    behind [] = refl
    behind (count ∷ more) = refl

-- Each stage keeps one departure at least, and each after the first four at most.
pub kept-some : (places : List ℕ) → All (λ count. 1 ≤ count) (drop 1 places) → All (λ count. 1 ≤ count) (kept places)
kept-some [] h = h
kept-some (count ∷ more) h = All-cons (λ count. 1 ≤ count) 1 more (omega arith) h

pub kept-narrow : (places : List ℕ) → All (λ count. count ≤ 4) (drop 1 places) → All (λ count. count ≤ 4) (kept places)
kept-narrow [] h = h
kept-narrow (count ∷ more) h = All-cons (λ count. count ≤ 4) 1 more (omega arith) h

pub some-kept : (places : List ℕ) (stage count : ℕ) → All (λ count. 1 ≤ count) (drop 1 places) → slice_get (kept places) stage ≡ Some count → 1 ≤ count
some-kept places stage count some at =
    subst (λ (n : ℕ). 1 ≤ n) (get_or_from_slice_get (kept places) stage count 0 at) (All-get_or (λ n. 1 ≤ n) (kept places) stage 0 (slice_get_within (kept places) stage count at) (kept-some places some))

pub few-kept : (places : List ℕ) (stage count : ℕ) → All (λ count. count ≤ 4) (drop 1 places) → slice_get (kept places) stage ≡ Some count → count ≤ 4
few-kept places stage count few at =
    subst (λ (n : ℕ). n ≤ 4) (get_or_from_slice_get (kept places) stage count 0 at) (All-get_or (λ n. n ≤ 4) (kept places) stage 0 (slice_get_within (kept places) stage count at) (kept-narrow places few))

-- The row of the latest departure from the last stage.
pub last-behind : (counts : List ℕ) → 1 ≤ length counts → last_row counts + get_or counts (length counts - 1) 0 ≡ sum counts
last-behind [] l = absurd (omega arith)
last-behind (count ∷ []) l = let e = sum-cons count [] in omega arith
last-behind (count ∷ (next ∷ more)) l =
    let e = sum-cons count (next ∷ more) in
    let rest = last-behind (next ∷ more) (omega arith) in
    let i : length (count ∷ (next ∷ more)) - 1 ≡ suc (length (next ∷ more) - 1) = omega arith in
    let same : get_or (count ∷ (next ∷ more)) (length (count ∷ (next ∷ more)) - 1) 0 ≡ get_or (next ∷ more) (length (next ∷ more) - 1) 0 = ap (λ (n : ℕ). get_or (count ∷ (next ∷ more)) n 0) i in
    omega arith

pub last-index : (places : List ℕ) (rows count : ℕ) → 2 ≤ length places → rows ≡ zero_row places + 1 → slice_get places (length places - 1) ≡ Some count → (rows - 1 - count ≡ last_row (kept places)) × (count + 1 ≤ rows)
last-index [] rows count l e at = absurd (omega arith)
last-index (first ∷ []) rows count l e at = absurd (omega arith)
last-index (first ∷ (next ∷ more)) rows count l e at =
    let i : length (first ∷ (next ∷ more)) - 1 ≡ suc (length (next ∷ more) - 1) = omega arith in
    let there : slice_get (next ∷ more) (length (next ∷ more) - 1) ≡ Some count = sym (ap (slice_get (first ∷ (next ∷ more))) i) ∙ at in
    let item : get_or (1 ∷ (next ∷ more)) (length (1 ∷ (next ∷ more)) - 1) 0 ≡ count = ap (λ (n : ℕ). get_or (1 ∷ (next ∷ more)) n 0) i ∙ get_or_from_slice_get (next ∷ more) (length (next ∷ more) - 1) count 0 there in
    let all = last-behind (1 ∷ (next ∷ more)) (omega arith) in
    (omega arith, omega arith)
