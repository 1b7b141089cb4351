-- What the same jobs ask for by two tables of rows that differ for none of them: for the proofs of mq_kept too.
use Rattle.std.proofs.Common.{◌≡◌, ℕ, Bool, true, List, [], ◌∷◌, map, refl, eqb-true}
use Rattle.std.specs.List.{AllByRecursion as Each, list_all}
use Rattle.std.proofs.lemmas.Bool.{and_parts}
use Rattle.mq_core.specs.Handling.{demand_of_job}
use Rattle.mq_core.specs.declared.model.Demand.{Demand}
use Rattle.mq_core.specs.declared.model.Rows.{Rows}
use Rattle.mq_alike.specs.Again.{same_demand}

-- by one demand
pub one-each : (rows rows' : Rows) (demand : Demand) (jobs : List ℕ) → Each (λ job. same_demand rows rows' job demand ≡ true) jobs → map (demand_of_job rows demand) jobs ≡ map (demand_of_job rows' demand) jobs
one-each rows rows' demand [] h = refl
one-each rows rows' demand (job ∷ jobs) h = (λ i. eqb-true (demand_of_job rows demand job) (demand_of_job rows' demand job) h.0 i ∷ one-each rows rows' demand jobs h.1 i)

-- jobs that pass all tests of a list pass the first, and those behind it
pub of-first : {X : Type 0} (test : ℕ → X → Bool) (x : X) (xs : List X) (jobs : List ℕ) → Each (λ job. list_all (test job) (x ∷ xs) ≡ true) jobs → Each (λ job. test job x ≡ true) jobs × Each (λ job. list_all (test job) xs ≡ true) jobs
of-first test x xs [] h = (tt, tt)
of-first test x xs (job ∷ jobs) h =
    let parts = and_parts (test job x) (list_all (test job) xs) h.0 in
    let more = of-first test x xs jobs h.1 in
    ((parts.0, more.0), (parts.1, more.1))

-- by each demand of a branch
pub demands-each : (rows rows' : Rows) (demands : List Demand) (jobs : List ℕ) → Each (λ job. list_all (same_demand rows rows' job) demands ≡ true) jobs → map (λ demand. map (demand_of_job rows demand) jobs) demands ≡ map (λ demand. map (demand_of_job rows' demand) jobs) demands
demands-each rows rows' [] jobs h = refl
demands-each rows rows' (demand ∷ demands) jobs h =
    let parts = of-first (λ job demand. same_demand rows rows' job demand) demand demands jobs h in
    (λ i. one-each rows rows' demand jobs parts.0 i ∷ demands-each rows rows' demands jobs parts.1 i)
