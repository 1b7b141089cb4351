-- That rows which are read for a network tell what each job asks for.
use Rattle.std.proofs.Common.{List, None, Option, Some, arith, length, refl, subst, sym, true, ℕ, ◌<◌, ◌^◌, ◌≡◌, ◌≤◌}
use Rattle.std.proofs.lemmas.Bool.{and_parts}
use Rattle.std.proofs.lemmas.Bool.Decides.{nat_tests}
use Rattle.std.proofs.lemmas.Option.{slice_get-get_or}
use Rattle.std.specs.Prelude.{nat_le, nat_lt, slice_get, slice_index}
use Rattle.mq_core.specs.Told.{HasValue, IsTold}
use Rattle.mq_core.specs.Handling.{column_value, value_of}
use Rattle.mq_core.specs.Ranges.{is_sound_demand, is_within}
use Rattle.mq_core.specs.Theorems.{IsReadFor}
use Rattle.mq_core.specs.declared.model.Demand.{Demand}
use Rattle.mq_core.specs.declared.model.Demand.TheVariants.{Column, Fixed}
use Rattle.mq_core.specs.declared.model.Network.{Network}
use Rattle.mq_core.specs.declared.model.Rows.{Rows}

-- a number between two limits
pub within-most : (low high n : ℕ) → is_within low high n ≡ true → n ≤ high
within-most low high n h = let e = (and_parts (nat_le low n) (nat_le n high) h).1 in grind (arith, nat_tests)

-- a column that is read has a value for each job, in its limit
pub tells-value : (net : Network) (rows : Rows) → IsReadFor net rows → (job : ℕ) → job < length rows.source → (column : ℕ) → column < length net.columns → HasValue rows column job × (value_of rows column job ≤ 2 ^ 36)
tells-value net rows read job below column inside = (
  record {
    inside = subst (λ n. column < n) (sym read.demands) inside;
    reaches = reach;
  },
  go (slice_get rows.demands column) refl,
)
  where
    reach : (values : List ℕ) → slice_get rows.demands column ≡ Some values → job < length values
    reach values e = subst (λ n. job < n) (sym (read.columns column values e)) below

    go : (o : Option (List ℕ)) → slice_get rows.demands column ≡ o → column_value o job ≤ 2 ^ 36
    go None e = omega arith
    go (Some values) e = read.small column values job (slice_index values job) e (slice_get-get_or values job 0 (reach values e))

-- a demand that is read is told, in its limit
pub tells-demand : (net : Network) (rows : Rows) → IsReadFor net rows → (job : ℕ) → job < length rows.source → (demand : Demand) → is_sound_demand (length net.columns) demand ≡ true → IsTold rows demand job
tells-demand net rows read job below (Column column) h =
    tells-value net rows read job below column (let t : nat_lt column (length net.columns) ≡ true = h in grind (arith, nat_tests))
tells-demand net rows read job below (Fixed demand) h = (tt, let t : nat_le demand (2 ^ 36) ≡ true = h in grind (arith, nat_tests))
