-- When jobs depart from a fork-join: none before it came, and one departure an arrival.
use Rattle.std.proofs.Common.{◌≡◌, ℕ, suc, ◌+◌, ◌≤◌, List, [], ◌∷◌, length, map, sym, refl, ap, ◌∙◌, subst, arith, max}
use Rattle.std.proofs.lemmas.List.{length-map}
use Rattle.std.specs.List.{AllByRecursion as Each}
use Rattle.mq_core.specs.SequenceLaws.{FatesInTime}
use Rattle.mq_core.specs.Handling.{demand_of_job}
use Rattle.mq_core.specs.Machine.{Visit}
use Rattle.mq_core.specs.Recurrences.{lindley, in_series, later_of, forkjoin_departs}
use Rattle.mq_core.specs.Kinds.ForkJoin.{branch_demands}
use Rattle.mq_core.specs.declared.model.Demand.{Demand}
use Rattle.mq_core.specs.declared.model.Fate.TheVariants.{Departs}
use Rattle.mq_core.specs.declared.model.Rows.{Rows}

-- one time an arrival, and none before it
abbrev pub AtLeast : List ℕ → List ℕ → Type 0
AtLeast [] [] = Unit {0}
AtLeast [] (time ∷ times) = ⊥
AtLeast (arrive ∷ arrives) [] = ⊥
AtLeast (arrive ∷ arrives) (time ∷ times) = (arrive ≤ time) × AtLeast arrives times

pub at_least-refl : (xs : List ℕ) → AtLeast xs xs
at_least-refl [] = tt
at_least-refl (x ∷ xs) = (omega arith, at_least-refl xs)

at_least-trans : (xs ys zs : List ℕ) → AtLeast xs ys → AtLeast ys zs → AtLeast xs zs
at_least-trans [] [] zs h k = k
at_least-trans [] (y ∷ ys) zs h k = absurd h
at_least-trans (x ∷ xs) [] zs h k = absurd h
at_least-trans (x ∷ xs) (y ∷ ys) [] h k = absurd k
at_least-trans (x ∷ xs) (y ∷ ys) (z ∷ zs) h k = ((let a = h.0 in let b = k.0 in omega arith), at_least-trans xs ys zs h.1 k.1)

pub at_least-length : (xs ys : List ℕ) → AtLeast xs ys → length ys ≡ length xs
at_least-length [] [] h = refl
at_least-length [] (y ∷ ys) h = absurd h
at_least-length (x ∷ xs) [] h = absurd h
at_least-length (x ∷ xs) (y ∷ ys) h = ap suc (at_least-length xs ys h.1)

lindley-at_least : (last : ℕ) (arrive demands : List ℕ) → length demands ≡ length arrive → AtLeast arrive (lindley last arrive demands)
lindley-at_least last [] demands e = tt
lindley-at_least last (a ∷ later) [] e = absurd (omega arith)
lindley-at_least last (a ∷ later) (d ∷ ds) e = (omega arith, lindley-at_least (max a last + d) later ds (omega arith))

pub in_series-at_least : (arrive : List ℕ) (demands : List (List ℕ)) → Each (λ ds. length ds ≡ length arrive) demands → AtLeast arrive (in_series arrive demands)
in_series-at_least arrive [] h = at_least-refl arrive
in_series-at_least arrive (ds ∷ more) h =
    let one = lindley-at_least 0 arrive ds h.0 in
    at_least-trans arrive (lindley 0 arrive ds) (in_series (lindley 0 arrive ds) more) one
    (in_series-at_least (lindley 0 arrive ds) more (subst (λ n. Each (λ ds. length ds ≡ n) more) (sym (at_least-length arrive (lindley 0 arrive ds) one)) h.1))

later-at_least : (xs ys zs : List ℕ) → AtLeast xs ys → AtLeast xs zs → AtLeast xs (later_of ys zs)
later-at_least [] [] zs h k = tt
later-at_least [] (y ∷ ys) zs h k = absurd h
later-at_least (x ∷ xs) [] zs h k = absurd h
later-at_least (x ∷ xs) (y ∷ ys) [] h k = absurd k
later-at_least (x ∷ xs) (y ∷ ys) (z ∷ zs) h k = ((let a = h.0 in omega arith), later-at_least xs ys zs h.1 k.1)

-- the later of an arrival and a time that is no earlier
pub later-self : (xs ys : List ℕ) → AtLeast xs ys → later_of ys xs ≡ ys
later-self [] [] h = refl
later-self [] (y ∷ ys) h = absurd h
later-self (x ∷ xs) [] h = absurd h
later-self (x ∷ xs) (y ∷ ys) h = let one : max y x ≡ y = (let a = h.0 in omega arith) in let rest = later-self xs ys h.1 in λ i. one i ∷ rest i

-- one demand a job at each server of a branch
pub demands-long : (rows : Rows) (demands : List Demand) (job : List ℕ) (n : ℕ) → length job ≡ n → Each (λ ds. length ds ≡ n) (map (λ demand. map (demand_of_job rows demand) job) demands)
demands-long rows [] job n e = tt
demands-long rows (d ∷ ds) job n e = (length-map job (demand_of_job rows d) ∙ e, demands-long rows ds job n e)

pub forkjoin-at_least : (rows : Rows) (branches : List (List Demand)) (job arrive : List ℕ) → length job ≡ length arrive → AtLeast arrive (forkjoin_departs arrive (branch_demands rows branches job))
forkjoin-at_least rows [] job arrive e = at_least-refl arrive
forkjoin-at_least rows (ds ∷ more) job arrive e =
    later-at_least arrive (in_series arrive (map (λ demand. map (demand_of_job rows demand) job) ds)) (forkjoin_departs arrive (branch_demands rows more job))
    (in_series-at_least arrive (map (λ demand. map (demand_of_job rows demand) job) ds) (demands-long rows ds job (length arrive) e)) (forkjoin-at_least rows more job arrive e)

-- so the fates at a fork-join are in time
pub fates-at_least : (arrive times : List ℕ) → AtLeast arrive times → FatesInTime arrive (map (λ time. Departs time) times)
fates-at_least [] [] h = record { even = refl; each = tt }
fates-at_least [] (t ∷ ts) h = absurd h
fates-at_least (a ∷ arrive) [] h = absurd h
fates-at_least (a ∷ arrive) (t ∷ ts) h = let r = fates-at_least arrive ts h.1 in record { even = ap suc r.even; each = (h.0, r.each) }

pub when-in_forkjoin : (rows : Rows) (branches : List (List Demand)) (job arrive : List ℕ) → length job ≡ length arrive → FatesInTime arrive (map (λ time. Departs time) (forkjoin_departs arrive (branch_demands rows branches job)))
when-in_forkjoin rows branches job arrive e = fates-at_least arrive (forkjoin_departs arrive (branch_demands rows branches job)) (forkjoin-at_least rows branches job arrive e)

both-long : (visits : List Visit) → length (map (λ (x : Visit). x.job) visits) ≡ length (map (λ (x : Visit). x.arrive) visits)
both-long visits = length-map visits (λ (x : Visit). x.job) ∙ sym (length-map visits (λ (x : Visit). x.arrive))

-- as many departures as visits
pub forkjoin-long : (rows : Rows) (branches : List (List Demand)) (visits : List Visit) → length (forkjoin_departs (map (λ (x : Visit). x.arrive) visits) (branch_demands rows branches (map (λ (x : Visit). x.job) visits))) ≡ length visits
forkjoin-long rows branches visits =
    at_least-length (map (λ (x : Visit). x.arrive) visits) _ (forkjoin-at_least rows branches (map (λ (x : Visit). x.job) visits) (map (λ (x : Visit). x.arrive) visits) (both-long visits)) ∙ length-map visits (λ (x : Visit). x.arrive)
