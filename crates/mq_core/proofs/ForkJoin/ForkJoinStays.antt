-- That a job stays in a fork-join no shorter than it asks for in any branch.
use Rattle.std.proofs.Common.{List, [], arith, length, map, sym, ℕ, ◌+◌, ◌∙◌, ◌∷◌, ◌≡◌, None, refl}
use Rattle.std.proofs.lemmas.List.Sums.{sum_by-cons}
use Rattle.std.specs.Prelude.{max, sum_by}
use Rattle.mq_core.specs.Handling.{demand_of_job, demand_of_visit}
use Rattle.mq_core.specs.Recurrences.{forkjoin_departs, in_series, later_of, lindley}
use Rattle.mq_core.specs.Results.{bare_time}
use Rattle.mq_core.specs.Kinds.ForkJoin.{branch_demands}
use Rattle.mq_core.specs.declared.model.Demand.{Demand}
use Rattle.mq_core.specs.declared.model.Kind.TheVariants.{ForkJoin}
use Rattle.mq_core.specs.declared.model.Rows.{Rows}
use Rattle.mq_core.proofs.ForkJoin.ForkJoinTimes.{at_least-length, demands-long, in_series-at_least}
use Rattle.mq_core.proofs.Lists.NumberLists.{greatest-cons}
use Rattle.mq_core.proofs.Server.ServerSequences.{stay-served}
use Rattle.mq_core.proofs.Counting.Stays.{Stay, stay-none}

-- to stay at one after the other is to stay both times
pub stay-both : (one more both : ℕ → ℕ) → ((j : ℕ) → both j ≡ one j + more j) → (job arrive between times : List ℕ) → Stay one job arrive between → Stay more job between times → Stay both job arrive times
stay-both one more both e job [] [] times h k = k
stay-both one more both e job [] (y ∷ ys) times h k = absurd h
stay-both one more both e [] (a ∷ later) [] times h k = k
stay-both one more both e [] (a ∷ later) (y ∷ ys) times h k = absurd h
stay-both one more both e (j ∷ js) (a ∷ later) [] times h k = absurd h
stay-both one more both e (j ∷ js) (a ∷ later) (y ∷ ys) [] h k = absurd k
stay-both one more both e (j ∷ js) (a ∷ later) (y ∷ ys) (z ∷ zs) h k =
    ((let l = h.0 in let m = k.0 in let s = e j in omega arith), stay-both one more both e js later ys zs h.1 k.1)

-- to leave by the later of two times is to stay the greater of both
pub stay-later : (one other most : ℕ → ℕ) → ((j : ℕ) → most j ≡ max (one j) (other j)) → (job arrive ys zs : List ℕ) → Stay one job arrive ys → Stay other job arrive zs → Stay most job arrive (later_of ys zs)
stay-later one other most e job [] [] zs h k = tt
stay-later one other most e job [] (y ∷ ys) zs h k = absurd h
stay-later one other most e [] (a ∷ later) [] zs h k = tt
stay-later one other most e [] (a ∷ later) (y ∷ ys) zs h k = absurd h
stay-later one other most e (j ∷ js) (a ∷ later) [] zs h k = absurd h
stay-later one other most e (j ∷ js) (a ∷ later) (y ∷ ys) [] h k = absurd k
stay-later one other most e (j ∷ js) (a ∷ later) (y ∷ ys) (z ∷ zs) h k =
    ((let l = h.0 in let m = k.0 in let s = e j in omega arith), stay-later one other most e js later ys zs h.1 k.1)

-- what a job asks for at all servers of a branch
abbrev pub in_branch : Rows → List Demand → ℕ → ℕ
in_branch rows demands job = sum_by (λ demand. demand_of_job rows demand job) demands

pub stay-in_series : (rows : Rows) (demands : List Demand) (job arrive : List ℕ) → length job ≡ length arrive → Stay (in_branch rows demands) job arrive (in_series arrive (map (λ demand. map (demand_of_job rows demand) job) demands))
stay-in_series rows [] job arrive e = stay-none job arrive e
stay-in_series rows (d ∷ ds) job arrive e =
    let between = lindley 0 arrive (map (demand_of_job rows d) job) in
    let long = at_least-length arrive between (in_series-at_least arrive (map (demand_of_job rows d) job ∷ []) (demands-long rows (d ∷ []) job (length arrive) e)) in
    stay-both (demand_of_job rows d) (in_branch rows ds) (in_branch rows (d ∷ ds)) (λ j. sum_by-cons (λ demand. demand_of_job rows demand j) d ds)
    job arrive between _ (stay-served 0 (demand_of_job rows d) job arrive) (stay-in_series rows ds job between (e ∙ sym long))

pub stay-in_forkjoin : (rows : Rows) (branches : List (List Demand)) (job arrive : List ℕ) → length job ≡ length arrive → Stay (bare_time rows (ForkJoin branches)) job arrive (forkjoin_departs arrive (branch_demands rows branches job))
stay-in_forkjoin rows [] job arrive e = stay-none job arrive e
stay-in_forkjoin rows (ds ∷ more) job arrive e =
    stay-later (in_branch rows ds) (bare_time rows (ForkJoin more)) (bare_time rows (ForkJoin (ds ∷ more))) (λ j. greatest-cons (in_branch rows ds j) (map (λ demands. in_branch rows demands j) more))
    job arrive _ _ (stay-in_series rows ds job arrive e) (stay-in_forkjoin rows more job arrive e)

pub none-asks : (rows : Rows) (demands : List Demand) → sum_by (λ demand. demand_of_visit rows demand None) demands ≡ 0
none-asks rows [] = refl
none-asks rows (demand ∷ demands) = omega (arith, sum_by-cons (λ d. demand_of_visit rows d None) demand demands, none-asks rows demands)
