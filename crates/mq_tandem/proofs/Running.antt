-- The jobs of a range in turn, on each column.
use Rattle.std.proofs.Common.{◌≡◌, ℕ, zero, suc, ◌+◌, ◌-◌, ◌<◌, ◌≤◌, List, [], ◌∷◌, ◌++◌, All, length, get_or, map, take, Some, refl, sym, ap, ◌∙◌, subst, arith}
use Rattle.std.specs.Prelude.{slice_get}
use Rattle.std.proofs.lemmas.List.Elements.{All-cons, All-get_or, All-head, All-map, All-nil, All-tail, All-weaker}
use Rattle.std.proofs.lemmas.Option.{get_or_from_slice_get, slice_get_within}
use Rattle.std.proofs.Math.Seq.{take-suc}
use Rattle.mq_maxplus.specs.declared.mp.Mp.{Mp}
use Rattle.mq_maxplus.specs.declared.mp.Mp.TheVariants.{Void, At}
use Rattle.mq_maxplus.specs.Maxplus.{mp_plus, Fits}
use Rattle.mq_maxplus.specs.Matrices.{entry, vec_plus, matrix_act, matrix_then, CanMatrixAct, CanMatrixThen}
use Rattle.mq_maxplus.proofs.MatrixLaws.{length-vplus}
use Rattle.mq_maxplus.proofs.Vectors.{entry-vplus}
use Rattle.mq_scan.specs.Folds.{extended}
use Rattle.mq_tandem.specs.Rows.{zero_row, job_act, job_matrix, mp_minus, ran, RunFits}
use Rattle.mq_tandem.specs.Linear.{act-plus, length-job, matrix-acts}
use Rattle.mq_tandem.proofs.Columns.{columns-fit}
use Rattle.mq_tandem.proofs.Mapping.{All-unmap}

lower-raise : (by : ℕ) (us : List Mp) → map (mp_minus by) (vec_plus (At by) us) ≡ us
lower-raise by [] = refl
lower-raise by (Void ∷ us) = ap (λ xs. Void ∷ xs) (lower-raise by us)
lower-raise by (At a ∷ us) = let e : by + a - by ≡ a = omega arith in λ i. At (e i) ∷ lower-raise by us i

module _ (places arrive : List ℕ) (demands : List (List ℕ)) where
  abbrev Ran : ℕ → ℕ → List Mp → List Mp
  Ran = ran places arrive demands

  abbrev Fit : ℕ → ℕ → List Mp → Type 0
  Fit = RunFits places arrive demands

  abbrev Jobs : ℕ → List (List Mp)
  Jobs = job_matrix places arrive demands

  abbrev IsSized : List Mp → Type 0
  IsSized rows = length rows ≡ zero_row places + 1

  pub length-ran : (from n : ℕ) (rows : List Mp) → IsSized rows → length (Ran from n rows) ≡ zero_row places + 1
  length-ran from zero rows e = e
  length-ran from (suc n) rows e = length-job places arrive demands (from + n) (Ran from n rows) (length-ran from n rows e)

  pub ran-plus : (from n : ℕ) (x : Mp) (rows : List Mp) → IsSized rows → Ran from n (vec_plus x rows) ≡ vec_plus x (Ran from n rows)
  ran-plus from zero x rows e = refl
  ran-plus from (suc n) x rows e =
      ap (job_act places arrive demands (from + n)) (ran-plus from n x rows e) ∙ act-plus places arrive demands (from + n) x (Ran from n rows) (length-ran from n rows e)

  -- one range behind another
  pub ran-append : (from n m : ℕ) (rows : List Mp) → Ran (from + n) m (Ran from n rows) ≡ Ran from (n + m) rows
  ran-append from n zero rows = let e : n ≡ n + 0 = omega arith in ap (λ (k : ℕ). Ran from k rows) e
  ran-append from n (suc m) rows =
      let index : from + n + m ≡ from + (n + m) = omega arith in
      let count : suc (n + m) ≡ n + suc m = omega arith in
      (λ i. job_act places arrive demands (index i) (ran-append from n m rows i)) ∙ ap (λ (k : ℕ). Ran from k rows) count

  pub fits-append : (from n m all : ℕ) (rows : List Mp) → n + m ≤ all → Fit from all rows → Fit (from + n) m (Ran from n rows)
  fits-append from n m all rows l h k less row =
      let count : n + suc k ≡ suc (n + k) = omega arith in
      subst (λ (xs : List Mp). Fits (entry xs row)) (sym (ran-append from n (suc k) rows ∙ ap (λ (j : ℕ). Ran from j rows) count)) (h (n + k) (omega arith) row)

  -- at the end of the range
  pub end-fits : (from count : ℕ) (rows : List Mp) → 1 ≤ count → Fit from count rows → (row : ℕ) → Fits (entry (Ran from count rows) row)
  end-fits from zero rows l h row = absurd (omega arith)
  end-fits from (suc n) rows l h row = h n (omega arith) row

  -- The columns of a matrix that is extended.
  step-each : (from n : ℕ) (columns : List (List Mp)) → All IsSized columns → map (matrix_act (Jobs (from + n))) (map (Ran from n) columns) ≡ map (Ran from (suc n)) columns
  step-each from n [] h = refl
  step-each from n (column ∷ columns) h =
      let size = length-ran from n column (All-head IsSized column columns h) in
      λ i. matrix-acts places arrive demands (from + n) (Ran from n column) size i ∷ step-each from n columns (All-tail IsSized column columns h) i

  pub same-each : (from : ℕ) (columns : List (List Mp)) → columns ≡ map (Ran from 0) columns
  same-each from [] = refl
  same-each from (column ∷ columns) = ap (λ xs. column ∷ xs) (same-each from columns)

  pub extended-ran : (from n : ℕ) (columns : List (List Mp)) → All IsSized columns → extended matrix_then Jobs columns from n ≡ map (Ran from n) columns
  extended-ran from zero columns h = same-each from columns
  extended-ran from (suc n) columns h = ap (map (matrix_act (Jobs (from + n)))) (extended-ran from n columns h) ∙ step-each from n columns h

  -- at the end of a range, which may be empty
  pub extend-ends : (from n : ℕ) (columns now : List (List Mp)) → (1 ≤ n → All IsSized columns) → now ≡ map (Ran from n) columns → now ≡ extended matrix_then Jobs columns from n
  extend-ends from zero columns now sized h = h ∙ sym (same-each from columns)
  extend-ends from (suc n) columns now sized h = h ∙ sym (extended-ran from (suc n) columns (sized (omega arith)))

  pub append-each : (from n m : ℕ) (columns : List (List Mp)) → map (Ran (from + n) m) (map (Ran from n) columns) ≡ map (Ran from (n + m)) columns
  append-each from n m [] = refl
  append-each from n m (column ∷ columns) = λ i. ran-append from n m column i ∷ append-each from n m columns i

  -- the columns are of one size, where the first job may be added
  pub all-sized : (columns : List (List Mp)) (from : ℕ) → length (Jobs from) ≡ zero_row places + 1 → CanMatrixThen columns (Jobs from) → All IsSized columns
  all-sized columns from e can = All-weaker (CanMatrixAct (Jobs from)) IsSized (λ column k. k.same ∙ e) columns can.each

  -- all of them fit, where each job may be added
  pub all-fit : (columns : List (List Mp)) (from count : ℕ) → All IsSized columns → ((n : ℕ) → n < count → CanMatrixThen (extended matrix_then Jobs columns from n) (Jobs (from + n))) → All (Fit from count) columns
  all-fit columns from count h can = swap columns (λ n less. All-unmap (λ column. (row : ℕ) → Fits (entry (job_act places arrive demands (from + n) column) row)) (Ran from n) columns (subst (All (λ column. (row : ℕ) → Fits (entry (job_act places arrive demands (from + n) column) row))) (extended-ran from n columns h) (columns-fit places arrive demands (from + n) (extended matrix_then Jobs columns from n) (can n less))))
    where
      swap : (columns : List (List Mp)) → ((n : ℕ) → n < count → All (λ column. (row : ℕ) → Fits (entry (Ran from (suc n) column) row)) columns) → All (Fit from count) columns
      swap [] k = All-nil (Fit from count)
      swap (column ∷ columns) k =
          All-cons (Fit from count) column columns (λ n less. All-head (λ column. (row : ℕ) → Fits (entry (Ran from (suc n) column) row)) column columns (k n less))
          (swap columns (λ n less. All-tail (λ column. (row : ℕ) → Fits (entry (Ran from (suc n) column) row)) column columns (k n less)))

  pub fit-each : (from n m all : ℕ) (columns : List (List Mp)) → n + m ≤ all → All (Fit from all) columns → All (Fit (from + n) m) (map (Ran from n) columns)
  fit-each from n m all columns l h = All-map (Fit (from + n) m) (Ran from n) columns (All-weaker (Fit from all) (λ column. Fit (from + n) m (Ran from n column)) (λ column k. fits-append from n m all column l k) columns h)

  -- A column that is above another, or below.
  pub above : (from count by : ℕ) (low high now : List Mp) → IsSized low → high ≡ vec_plus (At by) low → now ≡ Ran from count low → vec_plus (At by) now ≡ Ran from count high
  above from count by low high now e is n = ap (vec_plus (At by)) n ∙ (sym (ran-plus from count (At by) low e) ∙ ap (Ran from count) (sym is))

  pub below : (from count by : ℕ) (low high now : List Mp) → IsSized low → high ≡ vec_plus (At by) low → now ≡ Ran from count high → map (mp_minus by) now ≡ Ran from count low
  below from count by low high now e is n = ap (map (mp_minus by)) (n ∙ (ap (Ran from count) is ∙ ran-plus from count (At by) low e)) ∙ lower-raise by (Ran from count low)

  pub above-fits : (from count by : ℕ) (low high now : List Mp) → IsSized low → high ≡ vec_plus (At by) low → now ≡ Ran from count low → 1 ≤ count → Fit from count high → (row : ℕ) → Fits (mp_plus (At by) (entry now row))
  above-fits from count by low high now e is n some h row =
      subst Fits (ap (λ (xs : List Mp). entry xs row) (sym (above from count by low high now e is n)) ∙ entry-vplus (At by) now row) (end-fits from count high some h row)

-- a column by its index
pub column-at : (columns : List (List Mp)) (index : ℕ) (column : List Mp) → slice_get columns index ≡ Some column → column ≡ get_or columns index []
column-at columns index column at = sym (get_or_from_slice_get columns index column [] at)

pub fits-at : (places arrive : List ℕ) (demands : List (List ℕ)) (from count : ℕ) (columns : List (List Mp)) (index : ℕ) (column : List Mp) → slice_get columns index ≡ Some column → All (RunFits places arrive demands from count) columns → RunFits places arrive demands from count column
fits-at places arrive demands from count columns index column at h =
    subst (RunFits places arrive demands from count) (get_or_from_slice_get columns index column [] at) (All-get_or (RunFits places arrive demands from count) columns index [] (slice_get_within columns index column at) h)

-- one row more that is above by the number
pub above-next : (low high : List Mp) (by row : ℕ) (x y : Mp) → row < length low → length low ≡ length high → x ≡ entry low row → y ≡ entry high row → y ≡ mp_plus (At by) x → take row high ≡ take row (vec_plus (At by) low) → take (row + 1) high ≡ take (row + 1) (vec_plus (At by) low)
above-next low high by row x y l e a b s h =
    let long = length-vplus (At by) low in
    let next : suc row ≡ row + 1 = omega arith in
    let item : entry high row ≡ entry (vec_plus (At by) low) row = sym b ∙ (s ∙ (ap (mp_plus (At by)) a ∙ sym (entry-vplus (At by) low row))) in
    sym (ap (λ (n : ℕ). take n high) next)
    ∙ (take-suc high row Void (omega arith)
    ∙ ((λ i. h i ++ item i ∷ []) ∙ (sym (take-suc (vec_plus (At by) low) row Void (omega arith)) ∙ ap (λ (n : ℕ). take n (vec_plus (At by) low)) next)))

-- a job at one index of a range of one
pub one-fits : (places arrive : List ℕ) (demands : List (List ℕ)) (at many : ℕ) (columns : List (List Mp)) → many ≡ 1 → All (λ column. (row : ℕ) → Fits (entry (job_act places arrive demands at column) row)) columns → All (RunFits places arrive demands at many) columns
one-fits places arrive demands at many columns e h = All-weaker (λ column. (row : ℕ) → Fits (entry (job_act places arrive demands at column) row)) (RunFits places arrive demands at many) first columns h
  where
    first : (column : List Mp) → ((row : ℕ) → Fits (entry (job_act places arrive demands at column) row)) → RunFits places arrive demands at many column
    first column k zero l row = let e : at ≡ at + 0 = omega arith in subst (λ (n : ℕ). Fits (entry (job_act places arrive demands n column) row)) e (k row)
    first column k (suc n) l row = absurd (omega arith)

pub one-ran : (places arrive : List ℕ) (demands : List (List ℕ)) (at many : ℕ) (columns : List (List Mp)) → many ≡ 1 → map (ran places arrive demands at many) columns ≡ map (job_act places arrive demands at) columns
one-ran places arrive demands at many columns e =
    ap (λ (n : ℕ). map (ran places arrive demands at n) columns) e ∙ (let p : at + 0 ≡ at = omega arith in ap (λ (n : ℕ). map (job_act places arrive demands n) columns) p)
