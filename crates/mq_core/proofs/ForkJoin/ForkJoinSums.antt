-- One step of a loop over the servers or the branches of a fork-join.
use Rattle.std.proofs.Common.{◌≡◌, ℕ, ◌+◌, List, drop, fold, length, Some, sym, ap, ◌∙◌, arith, length-append}
use Rattle.std.specs.Prelude.{slice_get}
use Rattle.std.specs.List.{flat_map}
use Rattle.mq_base.proofs.lemmas.Lists.{drop_at}
use Rattle.mq_core.specs.Handling.{demand_of_job}
use Rattle.mq_core.specs.declared.model.Demand.{Demand}
use Rattle.mq_core.specs.declared.model.Rows.{Rows}

-- the sum so far, with what is left, is all
pub sum-next : (rows : Rows) (demands : List Demand) (job sum added all i : ℕ) (d : Demand) → slice_get demands i ≡ Some d → added ≡ demand_of_job rows d job →
    fold (λ a demand. a + demand_of_job rows demand job) sum (drop i demands) ≡ all → fold (λ a demand. a + demand_of_job rows demand job) (sum + added) (drop (i + 1) demands) ≡ all
sum-next rows demands job sum added all i d h m e =
    ap (λ n. fold (λ a demand. a + demand_of_job rows demand job) (sum + n) (drop (i + 1) demands)) m ∙ (sym (ap (fold (λ a demand. a + demand_of_job rows demand job) sum) (drop_at demands i d h)) ∙ e)

-- the servers so far, with what is left, are all
pub servers-next : (branches : List (List Demand)) (servers all i : ℕ) (demands : List Demand) → slice_get branches i ≡ Some demands → servers + length (flat_map (λ demands. demands) (drop i branches)) ≡ all → (servers + length demands) + length (flat_map (λ demands. demands) (drop (i + 1) branches)) ≡ all
servers-next branches servers all i demands h e =
    let a = ap (λ l. length (flat_map (λ demands. demands) l)) (drop_at branches i demands h) in
    let b = length-append demands (flat_map (λ demands. demands) (drop (i + 1) branches)) in
    omega arith
