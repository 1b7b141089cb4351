-- What a job asks for at several servers or branches, as loops over them find it.
use Rattle.std.proofs.Common.{◌≡◌, ℕ, zero, suc, ◌+◌, ◌*◌, ◌^◌, ◌≤◌, List, [], ◌∷◌, drop, fold, length, length-append, map, max, Some, sum_by, sym, ap, ◌∙◌, subst, arith}
use Rattle.std.specs.Prelude.{slice_get}
use Rattle.std.specs.List.{AllByRecursion as Each, flat_map}
use Rattle.std.proofs.Math.Nat.{suc-mul}
use Rattle.std.proofs.lemmas.List.Sums.{sum_by-cons}
use Rattle.mq_base.proofs.lemmas.Each.{Each-back, Each-front}
use Rattle.mq_base.proofs.lemmas.Lists.{drop_at, some_inj}
use Rattle.mq_core.specs.Told.{AreTold}
use Rattle.mq_core.specs.Handling.{demand_of_job}
use Rattle.mq_core.specs.declared.model.Demand.{Demand}
use Rattle.mq_core.specs.declared.model.Rows.{Rows}

-- the greatest so far, with what is left, is the greatest of all
pub longest-next : (rows : Rows) (branches : List (List Demand)) (job longest longest' found all i : ℕ) (demands : List Demand) → slice_get branches i ≡ Some demands → longest' ≡ max longest found → found ≡ sum_by (λ demand. demand_of_job rows demand job) demands →
    fold max longest (map (λ demands. sum_by (λ demand. demand_of_job rows demand job) demands) (drop i branches)) ≡ all → fold max longest' (map (λ demands. sum_by (λ demand. demand_of_job rows demand job) demands) (drop (i + 1) branches)) ≡ all
longest-next rows branches job longest longest' found all i demands h m f e =
    ap (λ n. fold max n (map (λ demands. sum_by (λ demand. demand_of_job rows demand job) demands) (drop (i + 1) branches))) (m ∙ ap (max longest) f)
    ∙ (sym (ap (λ l. fold max longest (map (λ demands. sum_by (λ demand. demand_of_job rows demand job) demands) l)) (drop_at branches i demands h)) ∙ e)

-- the demands of a branch are among those of all
pub told-at : (rows : Rows) (branches : List (List Demand)) (job i : ℕ) (demands : List Demand) → slice_get branches i ≡ Some demands → AreTold rows (flat_map (λ demands. demands) branches) job → AreTold rows demands job
told-at rows [] job i demands e h = absurd cc
told-at rows (ds ∷ more) job zero demands e h =
    subst (λ l. AreTold rows l job) (some_inj ds demands e)
    (record {
      few = (let l = h.few in omega (arith, length-append ds (flat_map (λ demands. demands) more)));
      each = Each-front _ ds (flat_map (λ demands. demands) more) h.each;
      small = Each-front _ ds (flat_map (λ demands. demands) more) h.small;
    })
told-at rows (ds ∷ more) job (suc i) demands e h =
    told-at rows more job i demands e
    (record {
      few = (let l = h.few in omega (arith, length-append ds (flat_map (λ demands. demands) more)));
      each = Each-back _ ds (flat_map (λ demands. demands) more) h.each;
      small = Each-back _ ds (flat_map (λ demands. demands) more) h.small;
    })

most : (f : Demand → ℕ) (demands : List Demand) → Each (λ demand. f demand ≤ 2 ^ 36) demands → sum_by f demands ≤ length demands * 2 ^ 36
most f [] h = omega arith
most f (d ∷ ds) h =
    let a = h.0 in
    let b = most f ds h.1 in
    let c = sum_by-cons f d ds in
    let e = suc-mul (length ds) (2 ^ 36) in
    omega arith

-- no sum passes 2^39
pub demands-most : (rows : Rows) (demands : List Demand) (job : ℕ) → AreTold rows demands job → sum_by (λ demand. demand_of_job rows demand job) demands ≤ 8 * 2 ^ 36
demands-most rows demands job h = let a = most (λ demand. demand_of_job rows demand job) demands h.small in let b = h.few in omega arith
