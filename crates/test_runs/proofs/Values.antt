-- The values of a column.
use Rattle.std.proofs.Common.{◌≡◌, ◌≤◌, ◌^◌, ℕ, All, List, Option, Some, None, arith, refl}
use Rattle.std.specs.Prelude.{slice_get}
use Rattle.mq_core.specs.Handling.{column_value, value_of}
use Rattle.mq_core.specs.Told.{HasValue}
use Rattle.mq_core.specs.declared.model.Rows.{Rows}

-- a value of a column whose values are all in their limit
pub value-small : (rows : Rows) (job : ℕ) → HasValue rows 0 job → ((values : List ℕ) → slice_get rows.demands 0 ≡ Some values → All (λ value. value ≤ 2 ^ 36) values) → value_of rows 0 job ≤ 2 ^ 36
value-small rows job told small = go (slice_get rows.demands 0) refl
  where
    go : (o : Option (List ℕ)) → slice_get rows.demands 0 ≡ o → column_value o job ≤ 2 ^ 36
    go None e = omega arith
    go (Some values) e = small values e job 0 (told.reaches values e)
