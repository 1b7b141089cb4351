-- A job acts on each column of a matrix.
use Rattle.std.proofs.Common.{◌≡◌, ℕ, ◌+◌, List, All, length, ◌∙◌, subst}
use Rattle.std.proofs.lemmas.List.{length-map}
use Rattle.std.proofs.lemmas.List.Elements.{All-weaker}
use Rattle.mq_maxplus.specs.declared.mp.Mp.{Mp}
use Rattle.mq_maxplus.specs.Maxplus.{Fits}
use Rattle.mq_maxplus.specs.Matrices.{entry, unit_matrix, CanMatrixAct, CanMatrixThen}
use Rattle.mq_maxplus.proofs.Columns.{act-fits}
use Rattle.mq_maxplus.proofs.MatrixLaws.{length-units}
use Rattle.mq_tandem.specs.Rows.{zero_row, job_act, job_matrix}
use Rattle.mq_tandem.specs.Linear.{matrix-acts}

module _ (places arrive : List ℕ) (demands : List (List ℕ)) (at : ℕ) where
  abbrev Act : List Mp → List Mp
  Act = job_act places arrive demands at

  abbrev Job : List (List Mp)
  Job = job_matrix places arrive demands at

  pub job-size : length Job ≡ zero_row places + 1
  job-size = length-map (unit_matrix (zero_row places + 1)) Act ∙ length-units (zero_row places + 1)

  -- what a job makes of rows fits where its matrix may act on them
  pub row-fits : (rows : List Mp) → CanMatrixAct Job rows → (row : ℕ) → Fits (entry (Act rows) row)
  row-fits rows can row = subst (λ (xs : List Mp). Fits (entry xs row)) (matrix-acts places arrive demands at rows (can.same ∙ job-size)) (act-fits Job rows can.sums row)

  pub columns-fit : (columns : List (List Mp)) → CanMatrixThen columns Job → All (λ column. (row : ℕ) → Fits (entry (Act column) row)) columns
  columns-fit columns can = All-weaker (CanMatrixAct Job) (λ column. (row : ℕ) → Fits (entry (Act column) row)) row-fits columns can.each
