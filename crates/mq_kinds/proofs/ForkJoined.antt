-- What comes to a fork-join, branch by branch, and what leaves it.
use Rattle.std.proofs.Common.{◌≡◌, ◌≤◌, ℕ, ◌+◌, ◌^◌, List, [], ◌∷◌, ◌++◌, All, length, length-append, map, take, drop, sum, sym, refl, ap, ◌∙◌, subst, arith, true}
use Rattle.std.specs.List.{AllByRecursion as Each, flat_map}
use Rattle.std.proofs.lemmas.List.{length-map}
use Rattle.mq_asked.specs.Demands.{AreAsked}
use Rattle.mq_base.proofs.lemmas.Each.{Each-back, Each-front, Each-get_or, Each-map, Each-weaker}
use Rattle.mq_base.proofs.lemmas.Lists.{sum-cons}
use Rattle.mq_core.specs.Handling.{demand_of_job}
use Rattle.mq_core.specs.Kinds.ForkJoin.{are_sound_branches, branch_demands}
use Rattle.mq_core.specs.Recurrences.{forkjoin_departs}
use Rattle.mq_core.specs.declared.model.Demand.{Demand}
use Rattle.mq_core.specs.declared.model.Fate.TheVariants.{Departs}
use Rattle.mq_core.specs.declared.model.Kind.TheVariants.{ForkJoin}
use Rattle.mq_core.specs.declared.model.Rows.{Rows}
use Rattle.mq_core.specs.declared.model.Stream.{Stream}
use Rattle.mq_forkjoin.specs.Branches.{AreBranches, branches_of}
use Rattle.mq_stations.specs.Leaving.{AreServed, IsLoad}
use Rattle.mq_stations.proofs.lemmas.Leaves.{AreToldBy}
use Rattle.mq_stations.proofs.lemmas.StageFacts.{IsBranch, demands-asked, demands-told, loads-sound, sound-branches}
use Rattle.mq_kinds.specs.Branches.{AreBranchLoads, IsBranchLoad}

pub narrow-branches : (columns : ℕ) (branches : List (List Demand)) → are_sound_branches columns branches ≡ true → All (λ demands. length demands ≤ 4) branches
narrow-branches columns branches h k d l = Each-get_or (λ demands. length demands ≤ 4) branches (sound-branches columns branches h).narrow k d l

-- the servers of all branches
servers-together : (branches : List (List Demand)) → length (flat_map (λ demands. demands) branches) ≡ sum (map length branches)
servers-together [] = refl
servers-together (demands ∷ more) = length-append demands (flat_map (λ ds. ds) more) ∙ (ap (λ n. length demands + n) (servers-together more) ∙ sym (sum-cons (length demands) (map length more)))

-- what a fork-join must have
pub branches-are : (columns : ℕ) (branches : List (List Demand)) (asked : List Demand) (servers : List ℕ) (f : Demand → List ℕ) (demands : List (List ℕ)) → are_sound_branches columns branches ≡ true → asked ≡ flat_map (λ ds. ds) branches → servers ≡ map length branches → demands ≡ map f asked →
    AreBranches servers demands
branches-are columns branches asked servers f demands h a p d =
    let s = sound-branches columns branches h in
    let least = s.some in
    let most = s.few in
    let long : length servers ≡ length branches = ap length p ∙ length-map branches _ in
    let all : length (flat_map (λ ds. ds) branches) ≡ sum servers = servers-together branches ∙ ap sum (sym p) in
    record {
      some = omega arith;
      served = subst (All (λ servers. 1 ≤ servers)) (sym p) (λ k o l. Each-get_or (λ servers. 1 ≤ servers) _ s.served k o l);
      few = omega arith;
      each = ap length d ∙ (length-map asked f ∙ (ap length a ∙ all));
    }

-- The branches of a fork-join, each with what its servers ask for.
by-branch : (P : Demand → Type 0) (branches : List (List Demand)) → Each P (flat_map (λ demands. demands) branches) → Each (λ demands. Each P demands) branches
by-branch P [] h = tt
by-branch P (demands ∷ more) h =
    let rest = flat_map (λ (ds : List Demand). ds) more in (Each-front P demands rest h, by-branch P more (Each-back P demands rest h))

told-by_branch : (rows : Rows) (branches : List (List Demand)) (arrivals : Stream) → IsLoad rows (ForkJoin branches) arrivals → Each (λ demands. Each (λ demand. AreToldBy rows demand arrivals.job) demands) branches
told-by_branch rows branches arrivals h = by-branch (λ demand. AreToldBy rows demand arrivals.job) branches (demands-told rows (flat_map (λ demands. demands) branches) arrivals.job h.told)

pub asked-by_branch : (rows : Rows) (branches : List (List Demand)) (arrivals : Stream) → IsLoad rows (ForkJoin branches) arrivals → Each (λ asked. All (λ demand. AreAsked rows demand arrivals.job) asked) branches
asked-by_branch rows branches arrivals h =
    Each-weaker (λ demands. Each (λ demand. AreToldBy rows demand arrivals.job) demands) (λ asked. All (λ demand. AreAsked rows demand arrivals.job) asked) (λ demands told. demands-asked rows demands demands arrivals.job refl told) branches (told-by_branch rows branches arrivals h)

each-both : {X : Type 0} (P Q : X → Type 0) (xs : List X) → Each P xs → Each Q xs → Each (λ x. P x × Q x) xs
each-both P Q [] p q = tt
each-both P Q (x ∷ xs) p q = ((p.0, q.0), each-both P Q xs p.1 q.1)

pub branch-loads : (rows : Rows) (branches : List (List Demand)) (arrivals : Stream) (demands : List (List (List ℕ))) → IsLoad rows (ForkJoin branches) arrivals → demands ≡ branch_demands rows branches arrivals.job → AreBranchLoads arrivals.time demands
branch-loads rows branches arrivals demands h e =
    let s = sound-branches h.columns branches h.sound in
    record {
      few = let wide = s.wide in let count = ap length e ∙ length-map branches _ in omega arith;
      early = λ k d l. Each-get_or (λ time. time ≤ 2 ^ 60) arrivals.time h.ordered.early k d l;
      each = subst (Each (IsBranchLoad arrivals.time)) (sym e) (Each-map Whole (IsBranchLoad arrivals.time) (map asks) (λ servers w. one servers w.0 w.1) branches (each-both IsBranch (λ servers. Each (λ demand. AreToldBy rows demand arrivals.job) servers) branches s.each (told-by_branch rows branches arrivals h)));
    }
  where
    asks : Demand → List ℕ
    asks demand = map (demand_of_job rows demand) arrivals.job

    Whole : List Demand → Type 0
    Whole servers = IsBranch servers × Each (λ demand. AreToldBy rows demand arrivals.job) servers

    one : (servers : List Demand) → IsBranch servers → Each (λ demand. AreToldBy rows demand arrivals.job) servers → IsBranchLoad arrivals.time (map asks servers)
    one servers i told =
        let count = length-map servers asks in
        let some = i.some in
        let few = i.few in
        record { some = omega arith; few = omega arith; load = loads-sound rows (ForkJoin branches) servers servers arrivals (map asks servers) h refl told refl }

-- What leaves a fork-join. The demands of all servers, cut into branches, are those of each branch.
take-front : {X : Type 0} (f : Demand → X) (front rest : List Demand) → take (length front) (map f (front ++ rest)) ≡ map f front
take-front f [] rest = refl
take-front f (d ∷ front) rest = ap (λ l. f d ∷ l) (take-front f front rest)

drop-front : {X : Type 0} (f : Demand → X) (front rest : List Demand) → drop (length front) (map f (front ++ rest)) ≡ map f rest
drop-front f [] rest = refl
drop-front f (d ∷ front) rest = drop-front f front rest

branches-back : (f : Demand → List ℕ) (branches : List (List Demand)) → branches_of (map length branches) (map f (flat_map (λ ds. ds) branches)) ≡ map (λ demands. map f demands) branches
branches-back f [] = refl
branches-back f (demands ∷ more) =
    (λ k. take-front f demands (flat_map (λ ds. ds) more) k ∷ branches_of (map length more) (drop-front f demands (flat_map (λ ds. ds) more) k)) ∙ ap (λ l. map f demands ∷ l) (branches-back f more)

pub forkjoin-served : (rows : Rows) (branches : List (List Demand)) (arrivals : Stream) (asked : List Demand) (demands : List (List ℕ)) (servers departs : List ℕ) →
    asked ≡ flat_map (λ ds. ds) branches → demands ≡ map (λ demand. map (demand_of_job rows demand) arrivals.job) asked → servers ≡ map length branches → departs ≡ forkjoin_departs arrivals.time (branches_of servers demands) →
    AreServed rows (ForkJoin branches) arrivals departs
forkjoin-served rows branches arrivals asked demands servers departs a m p d =
    let by : departs ≡ forkjoin_departs arrivals.time (branch_demands rows branches arrivals.job) =
    d ∙ ((λ k. forkjoin_departs arrivals.time (branches_of (p k) ((m ∙ ap (map (λ demand. map (demand_of_job rows demand) arrivals.job)) a) k))) ∙ ap (forkjoin_departs arrivals.time) (branches-back (λ demand. map (demand_of_job rows demand) arrivals.job) branches)) in
    (record { once = refl; one = refl; outs = refl; fates = ap (map (λ time. Departs time)) (sym by) }, λ stream. refl)
