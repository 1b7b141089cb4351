-- Both columns of a matrix, side by side: the first has minus infinity in the row of the zero.
use Rattle.std.proofs.Common.{◌≡◌, ℕ, zero, suc, ◌+◌, ◌-◌, ◌≤◌, List, [], ◌∷◌, ◌++◌, All, get_or, length, max, take, drop, map, set, sum, Some, refl, sym, ap, ◌∙◌, subst, arith, append_assoc}
use Rattle.std.specs.Prelude.{slice_get}
use Rattle.std.proofs.lemmas.List.{drop-append-le, get_or-append-add, get_or_append_left, get_or-take, length-drop, length-take-le, take-append-drop, take-append-le}
use Rattle.std.proofs.lemmas.List.Elements.{All-head, All-tail}
use Rattle.std.proofs.Math.Seq.{take-append_seam}
use Rattle.mq_base.proofs.lemmas.Lists.{drop_at, sum-cons, take-all}
use Rattle.mq_core.specs.Recurrences.{firsts}
use Rattle.mq_maxplus.specs.declared.mp.Mp.{Mp}
use Rattle.mq_maxplus.specs.declared.mp.Mp.TheVariants.{Void, At}
use Rattle.mq_maxplus.specs.Maxplus.{mp_max, mp_or_zero, mp_plus, Fits}
use Rattle.mq_maxplus.specs.Matrices.{entry}
use Rattle.mq_tandem.specs.Rows.{job_act, kept, passed, room_row, zero_row}
use Rattle.mq_tandem.specs.Bare.{bare}
use Rattle.mq_tandem.specs.Linear.{length-passed}
use Rattle.mq_tandem.proofs.Kept.{later-time}
use Rattle.mq_tandem.proofs.Passing.{Passing, served-fits}

-- What stands behind the departures has no part in it.
room-append : (more : List ℕ) (us xs : List Mp) → All (λ count. 1 ≤ count) more → sum more ≤ length us → room_row more (us ++ xs) ≡ room_row more us
room-append [] us xs some l = refl
room-append (count ∷ more) us xs some l =
    let one : 1 ≤ count = All-head (λ count. 1 ≤ count) count more some in
    let all = sum-cons count more in
    get_or_append_left us xs Void (count - 1) (omega arith)

passed-append : (counts demands : List ℕ) (came : Mp) (us xs : List Mp) → All (λ count. 1 ≤ count) counts → sum counts ≤ length us → passed came counts demands (us ++ xs) ≡ passed came counts demands us ++ xs
passed-append [] demands came us xs some l = refl
passed-append (count ∷ more) [] came us xs some l = refl
passed-append (count ∷ more) (demand ∷ demands) came us xs some l =
    let one : 1 ≤ count = All-head (λ count. 1 ≤ count) count more some in
    let rest = All-tail (λ count. 1 ≤ count) count more some in
    let all = sum-cons count more in
    let long = length-drop count us in
    let front : entry (us ++ xs) 0 ≡ entry us 0 = get_or_append_left us xs Void 0 (omega arith) in
    let behind : drop count (us ++ xs) ≡ drop count us ++ xs = drop-append-le count us xs (omega arith) in
    let room : room_row more (drop count (us ++ xs)) ≡ room_row more (drop count us) = ap (room_row more) behind ∙ room-append more (drop count us) xs rest (omega arith) in
    let t = mp_max (mp_plus (mp_max came (entry us 0)) (At demand)) (room_row more (drop count us)) in
    let time : mp_max (mp_plus (mp_max came (entry (us ++ xs) 0)) (At demand)) (room_row more (drop count (us ++ xs))) ≡ t = λ i. mp_max (mp_plus (mp_max came (front i)) (At demand)) (room i) in
    (λ i. take count (time i ∷ (us ++ xs)) ++ passed (time i) more demands (behind i))
    ∙ ((λ i. take-append-le count (t ∷ us) xs (omega arith) i ++ passed-append more demands t (drop count us) xs rest (omega arith) i)
    ∙ sym (append_assoc (take count (t ∷ us)) (passed t more demands (drop count us)) xs))

-- A job that never comes is served as one that comes when the one before it leaves.
never-comes : (counts demands : List ℕ) (t : ℕ) (rows : List Mp) → entry rows 0 ≡ At t → passed Void counts demands rows ≡ passed (At t) counts demands rows
never-comes [] demands t rows e = refl
never-comes (count ∷ more) [] t rows e = refl
never-comes (count ∷ more) (demand ∷ demands) t rows e =
    let most : t ≡ max t t = omega arith in
    let same : mp_max Void (entry rows 0) ≡ mp_max (At t) (entry rows 0) = e ∙ (ap At most ∙ sym (ap (mp_max (At t)) e)) in
    λ i. take count (mp_max (mp_plus (same i) (At demand)) (room_row more (drop count rows)) ∷ rows) ++ passed (mp_max (mp_plus (same i) (At demand)) (room_row more (drop count rows))) more demands (drop count rows)

-- a row that is a time
pub is-early : (x : Mp) (t : ℕ) → x ≡ At t → (x ≡ At (mp_or_zero x)) × (mp_or_zero x ≡ t)
is-early x t e = (e ∙ ap (λ (y : Mp). At (mp_or_zero y)) (sym e), ap mp_or_zero e)

-- when a job leaves a stage, by numbers
pub leaves-at : (time row demand served room left : ℕ) (kept space : Mp) → kept ≡ At row → served ≡ max time row → room ≡ mp_or_zero space → left ≡ max (served + demand) room → At left ≡ mp_max (mp_plus (mp_max (At time) kept) (At demand)) space
leaves-at time row demand served room left kept space k s r l =
    ap At (l ∙ λ i. max (s i + demand) (r i))
    ∙ (sym (later-time (max time row + demand) space) ∙ ap (λ (x : Mp). mp_max (mp_plus (mp_max (At time) x) (At demand)) space) (sym k))

-- The row of the zero is written.
pub set-last : (n : ℕ) (xs : List Mp) (y : Mp) → length xs ≡ n + 1 → set xs n y ≡ take n xs ++ y ∷ []
set-last n [] y e = absurd (omega arith)
set-last zero (x ∷ []) y e = refl
set-last zero (x ∷ (x' ∷ xs)) y e = absurd (omega arith)
set-last (suc n) (x ∷ xs) y e = ap (λ ys. x ∷ ys) (set-last n xs y (omega arith))

-- Columns whose numbers are read.
pub first-is : (places : List ℕ) (first column : List Mp) → length column ≡ zero_row places + 1 → column ≡ take (length column - 1) first ++ Void ∷ [] → bare places first ≡ column
first-is places first column e is =
    let row : length column - 1 ≡ zero_row places = omega arith in
    sym (is ∙ ap (λ (n : ℕ). take n first ++ Void ∷ []) row)

pub zero-is : (many : ℕ) (numbers column : List Mp) → length numbers ≡ many → length column ≡ many → take many numbers ≡ take many column → numbers ≡ column
zero-is many numbers column e f is = sym (take-all numbers many (omega arith)) ∙ (is ∙ take-all column many (omega arith))

module _ (places arrive : List ℕ) (demands : List (List ℕ)) (at : ℕ) (first : List Mp) (t : ℕ) (counted : All (λ count. 1 ≤ count) (kept places)) (some : 1 ≤ zero_row places) (size : length first ≡ zero_row places + 1) (early : entry first 0 ≡ At t) where
  abbrev Demands : List ℕ
  Demands = firsts (map (drop at) demands)

  -- what the job makes of the numbers
  abbrev pub Alone : List Mp
  Alone = passed (At t) (kept places) Demands first

  pub bare-job : bare places Alone ≡ job_act places arrive demands at (bare places first)
  bare-job =
      let z = zero_row places in
      let us = take z first in
      let none = Void ∷ [] in
      let long : length us ≡ z = length-take-le z first (omega arith) in
      let last : z ≡ length us + 0 = omega arith in
      let void : entry (us ++ none) z ≡ Void = ap (entry (us ++ none)) last ∙ get_or-append-add us none 0 Void in
      let done = passed (At t) (kept places) Demands us in
      let many : length done ≡ z = length-passed (kept places) Demands (At t) us (omega arith) ∙ long in
      let front : entry us 0 ≡ At t = get_or-take z first 0 Void (omega arith) ∙ early in
      let left : take z Alone ≡ done =
      ap (λ xs. take z (passed (At t) (kept places) Demands xs)) (sym (take-append-drop z first))
      ∙ (ap (take z) (passed-append (kept places) Demands (At t) us (drop z first) counted (omega arith))
      ∙ (ap (λ (n : ℕ). take n (done ++ drop z first)) (sym many) ∙ take-append_seam done (drop z first))) in
      ap (λ xs. xs ++ none) left
      ∙ sym (ap (λ (x : Mp). passed (mp_plus x (At (get_or arrive at 0))) (kept places) Demands (us ++ none)) void
      ∙ (passed-append (kept places) Demands Void us none counted (omega arith) ∙ ap (λ xs. xs ++ none) (never-comes (kept places) Demands t us front)))

  pub alone-begins : (many : ℕ) → many ≡ zero_row places + 1 → Passing Alone (kept places) Demands many (At t) first 0 0
  alone-begins many e = record { so_far = refl; size = size ∙ sym e; here = omega arith }

  pub alone-fits : (many : ℕ) (time : Mp) (rows : List Mp) (row stage count demand : ℕ) → many ≡ zero_row places + 1 → slice_get (kept places) stage ≡ Some count → slice_get Demands stage ≡ Some demand → 1 ≤ count → ((row : ℕ) → Fits (entry (job_act places arrive demands at (bare places first)) row)) → Passing Alone (kept places) Demands many time rows row stage →
      Fits (mp_plus (mp_max time (entry rows row)) (At demand))
  alone-fits many time rows row stage count demand e c d one fits h =
      let z = zero_row places in
      let sums : sum (drop stage (kept places)) ≡ count + sum (drop (stage + 1) (kept places)) = ap sum (drop_at (kept places) stage count c) ∙ sum-cons count (drop (stage + 1) (kept places)) in
      let here = h.here in
      let long : length Alone ≡ z + 1 = length-passed (kept places) Demands (At t) first (omega arith) ∙ size in
      let front : length (take z Alone) ≡ z = length-take-le z Alone (omega arith) in
      let is : entry (bare places Alone) row ≡ entry Alone row = get_or_append_left (take z Alone) (Void ∷ []) Void row (omega arith) ∙ get_or-take z Alone row Void (omega arith) in
      served-fits Alone (kept places) Demands many time rows row stage count demand c d one (subst Fits (ap (λ xs. entry xs row) (sym bare-job) ∙ is) (fits row)) h
