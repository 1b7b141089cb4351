-- One job through the stages.
use Rattle.std.proofs.Common.{◌≡◌, ℕ, zero, suc, ◌+◌, ◌-◌, ◌≤◌, List, ◌∷◌, ◌++◌, length, take, drop, sum, Some, refl, sym, ap, ◌∙◌, subst, arith, append_assoc}
use Rattle.std.specs.Prelude.{slice_get}
use Rattle.std.proofs.lemmas.List.{drop_all, drop-drop, get_or-drop, length-append, length-drop, length-take-le, take-append-drop, get_or-append-add}
use Rattle.std.proofs.Math.Seq.{take-append_seam, drop-append_seam}
use Rattle.mq_base.proofs.lemmas.Lists.{drop_at, sum-cons}
use Rattle.mq_maxplus.specs.declared.mp.Mp.{Mp}
use Rattle.mq_maxplus.specs.declared.mp.Mp.TheVariants.{Void, At}
use Rattle.mq_maxplus.specs.Maxplus.{mp_max, mp_plus, Fits}
use Rattle.mq_maxplus.specs.Matrices.{entry}
use Rattle.mq_maxplus.proofs.MatrixLaws.{fits-left, fits-before}
use Rattle.mq_tandem.specs.Rows.{room_row, passed}

-- when a job leaves a stage, whose departures begin at this row
abbrev pub leaves : Mp → ℕ → ℕ → List ℕ → List Mp → ℕ → Mp
leaves time count demand more rows row = mp_max (mp_plus (mp_max time (entry rows row)) (At demand)) (room_row more (drop (row + count) rows))

-- What is kept while a job goes through the stages: the rows so far, and what those behind make of the others, are all.
pub record Passing (all : List Mp) (counts demands : List ℕ) (many : ℕ) (time : Mp) (rows : List Mp) (row stage : ℕ) : Type 0 where
  pub so_far : take row rows ++ passed time (drop stage counts) (drop stage demands) (drop row rows) ≡ all
  pub size : length rows ≡ many
  pub here : row + sum (drop stage counts) + 1 ≡ many

-- the job at this stage
at-stage : (counts demands : List ℕ) (time : Mp) (rows : List Mp) (row stage count demand : ℕ) → slice_get counts stage ≡ Some count → slice_get demands stage ≡ Some demand →
    passed time (drop stage counts) (drop stage demands) (drop row rows)
    ≡ take count (leaves time count demand (drop (stage + 1) counts) rows row ∷ drop row rows) ++ passed (leaves time count demand (drop (stage + 1) counts) rows row) (drop (stage + 1) counts) (drop (stage + 1) demands) (drop (row + count) rows)
at-stage counts demands time rows row stage count demand c d =
    let more = drop (stage + 1) counts in
    let front : entry (drop row rows) 0 ≡ entry rows row = get_or-drop row rows 0 Void ∙ (let e : row + 0 ≡ row = omega arith in ap (entry rows) e) in
    let behind : drop count (drop row rows) ≡ drop (row + count) rows = drop-drop count row rows in
    (λ i. passed time (drop_at counts stage count c i) (drop_at demands stage demand d i) (drop row rows))
    ∙ (λ i. take count (mp_max (mp_plus (mp_max time (front i)) (At demand)) (room_row more (behind i)) ∷ drop row rows)
    ++ passed (mp_max (mp_plus (mp_max time (front i)) (At demand)) (room_row more (behind i))) more (drop (stage + 1) demands) (behind i))

pub passing-next : (all : List Mp) (counts demands : List ℕ) (many : ℕ) (time time' : Mp) (rows rows' : List Mp) (row row' stage count demand : ℕ) → slice_get counts stage ≡ Some count → slice_get demands stage ≡ Some demand → row' ≡ row + count → time' ≡ leaves time count demand (drop (stage + 1) counts) rows row →
    rows' ≡ take row rows ++ (take (row' - row) (time' ∷ drop row rows) ++ drop row' rows) → length rows' ≡ length rows → Passing all counts demands many time rows row stage → Passing all counts demands many time' rows' row' (stage + 1)
passing-next all counts demands many time time' rows rows' row row' stage count demand c d r t s l h =
    let more = drop (stage + 1) counts in
    let front = take row rows in
    let here = take count (time' ∷ drop row rows) in
    let sums : sum (drop stage counts) ≡ count + sum more = ap sum (drop_at counts stage count c) ∙ sum-cons count more in
    let index = h.here in
    let size = h.size in
    let long = length-drop row rows in
    let first : length front ≡ row = length-take-le row rows (omega arith) in
    let second : length here ≡ count = length-take-le count (time' ∷ drop row rows) (omega arith) in
    let both : length (front ++ here) ≡ row' = length-append front here ∙ omega arith in
    let served : row' - row ≡ count = omega arith in
    let is : rows' ≡ (front ++ here) ++ drop row' rows = s ∙ (ap (λ (n : ℕ). front ++ (take n (time' ∷ drop row rows) ++ drop row' rows)) served ∙ sym (append_assoc front here (drop row' rows))) in
    let before : take row' rows' ≡ front ++ here = ap (take row') is ∙ (ap (λ (n : ℕ). take n ((front ++ here) ++ drop row' rows)) (sym both) ∙ take-append_seam (front ++ here) (drop row' rows)) in
    let after : drop row' rows' ≡ drop row' rows = ap (drop row') is ∙ (ap (λ (n : ℕ). drop n ((front ++ here) ++ drop row' rows)) (sym both) ∙ drop-append_seam (front ++ here) (drop row' rows)) in
    record {
      so_far =
          (λ i. before i ++ passed time' more (drop (stage + 1) demands) (after i))
          ∙ (append_assoc front here (passed time' more (drop (stage + 1) demands) (drop row' rows))
          ∙ (ap (λ xs. front ++ xs)
          ((λ i. take count (t i ∷ drop row rows) ++ passed (t i) more (drop (stage + 1) demands) (drop (r i) rows)) ∙ sym (at-stage counts demands time rows row stage count demand c d))
          ∙ h.so_far));
      size = l ∙ h.size;
      here = omega arith;
    }

pub passing-ends : (all : List Mp) (counts demands : List ℕ) (many : ℕ) (time : Mp) (rows : List Mp) (row stage : ℕ) → length counts ≤ stage → Passing all counts demands many time rows row stage → rows ≡ all
passing-ends all counts demands many time rows row stage l h =
    sym (take-append-drop row rows) ∙ (sym (ap (λ left. take row rows ++ passed time left (drop stage demands) (drop row rows)) (drop_all stage counts l)) ∙ h.so_far)

-- where what a job makes of the rows fits, so does the end of its service at a stage
pub served-fits : (all : List Mp) (counts demands : List ℕ) (many : ℕ) (time : Mp) (rows : List Mp) (row stage count demand : ℕ) → slice_get counts stage ≡ Some count → slice_get demands stage ≡ Some demand → 1 ≤ count → Fits (entry all row) → Passing all counts demands many time rows row stage →
    Fits (mp_plus (mp_max time (entry rows row)) (At demand))
served-fits all counts demands many time rows row stage count demand c d some fits h =
    let more = drop (stage + 1) counts in
    let leave = leaves time count demand more rows row in
    let sums : sum (drop stage counts) ≡ count + sum more = ap sum (drop_at counts stage count c) ∙ sum-cons count more in
    let index = h.here in
    let size = h.size in
    let front : length (take row rows) ≡ row = length-take-le row rows (omega arith) in
    let rest = passed leave more (drop (stage + 1) demands) (drop (row + count) rows) in
    let is : entry all row ≡ leave =
    ap (λ xs. entry xs row) (sym h.so_far ∙ ap (λ xs. take row rows ++ xs) (at-stage counts demands time rows row stage count demand c d))
    ∙ (ap (entry (take row rows ++ (take count (leave ∷ drop row rows) ++ rest))) (let e : row ≡ length (take row rows) + 0 = omega arith in e)
    ∙ (get_or-append-add (take row rows) (take count (leave ∷ drop row rows) ++ rest) 0 Void ∙ first count leave (drop row rows) rest some)) in
    fits-left (mp_plus (mp_max time (entry rows row)) (At demand)) (room_row more (drop (row + count) rows)) (subst Fits is fits)
  where
    first : (count : ℕ) (x : Mp) (xs rest : List Mp) → 1 ≤ count → entry (take count (x ∷ xs) ++ rest) 0 ≡ x
    first zero x xs rest l = absurd (omega arith)
    first (suc n) x xs rest l = refl

-- and its arrival
pub came-fits : (all : List Mp) (counts demands : List ℕ) (many : ℕ) (came : Mp) (rows : List Mp) (count demand : ℕ) → slice_get counts 0 ≡ Some count → slice_get demands 0 ≡ Some demand → 1 ≤ count → ((row : ℕ) → Fits (entry all row)) → Passing all counts demands many came rows 0 0 → Fits came
came-fits all counts demands many came rows count demand c d some fits h =
    fits-left came (entry rows 0) (fits-before (mp_max came (entry rows 0)) demand (served-fits all counts demands many came rows 0 0 count demand c d some (fits 0) h))
