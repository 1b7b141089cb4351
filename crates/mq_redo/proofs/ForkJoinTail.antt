-- The last jobs of a fork-join, behind the blocks that stay.
use Rattle.std.proofs.Common.{◌≡◌, ℕ, ◌+◌, ◌*◌, ◌<◌, ◌≤◌, All, List, ◌∷◌, ◌++◌, drop, fold, get_or, length, map, max, take, refl, sym, ap, ◌∙◌, subst, arith, Some, slice_get}
use Rattle.std.specs.Prelude.{replicate}
use Rattle.std.specs.List.{flat_map}
use Rattle.std.proofs.lemmas.List.{get_or-drop, length-drop, length-map}
use Rattle.mq_alike.specs.Again.{AlikeIsFirst, Coming}
use Rattle.mq_core.specs.Handling.{demand_of_job}
use Rattle.mq_core.specs.Kinds.ForkJoin.{branch_demands}
use Rattle.mq_core.specs.Sequences.{IsSoundLoad}
use Rattle.mq_core.specs.declared.model.Demand.{Demand}
use Rattle.mq_core.specs.declared.model.Fate.{Fate}
use Rattle.mq_core.specs.declared.model.Fate.TheVariants.{Departs}
use Rattle.mq_core.specs.declared.model.Kind.TheVariants.{ForkJoin}
use Rattle.mq_core.specs.declared.model.Rows.{Rows}
use Rattle.mq_core.specs.declared.model.Stream.{Stream}
use Rattle.mq_forkjoin.proofs.Carries.{all-departures}
use Rattle.mq_forkjoin.specs.Bounds.{one-acts}
use Rattle.mq_forkjoin.specs.Fronts.{CanServe, jobs_act, one_job}
use Rattle.mq_forkjoin.specs.Runs.{IsForkJoinLoad, asked_at, job_run, range_run}
use Rattle.mq_forkjoin.specs.Servers.{begins_of, servers_of}
use Rattle.mq_forkjoin.specs.declared.step.ForkJoinStep.{ForkJoinStep}
use Rattle.mq_scan.specs.Folds.{fold_to}
use Rattle.mq_scan.specs.declared.blocks.Blocks.{Blocks}
use Rattle.mq_stations.proofs.lemmas.Lists.{Each-get_or}
use Rattle.mq_stations.proofs.lemmas.StageFacts.{demands-told, forkjoin-departs, loads-sound, sound-branches}
use Rattle.mq_stations.specs.Leaving.{AreServed, IsLoad}
use Rattle.mq_redo.specs.Branches.{asks_at_servers}
use Rattle.mq_redo.specs.Doing.{AreDone, MayAct}
use Rattle.mq_redo.specs.Kept.{IsForkJoinStaying, IsKeptForkJoin, coming_as, forkjoin_does}
use Rattle.mq_redo.specs.Staying.{IsKeptScan}
use Rattle.mq_redo.proofs.Begins.{begins-long, begins-map, flat-map, some-server}
use Rattle.mq_redo.proofs.Last.{forkjoin-acts, runs-fold, servers-last}
use Rattle.mq_redo.proofs.Same.{forkjoin-same}
use Rattle.mq_redo.proofs.Staying.{kept-times}
use Rattle.mq_redo.proofs.Tails.{carry-is, fates-behind, first-few, scan-behind, times-told}

-- a fork-join can work on all that comes
pub forkjoin-load : (rows : Rows) (branches : List (List Demand)) (arrivals : Stream) → IsLoad rows (ForkJoin branches) arrivals → IsForkJoinLoad arrivals.time (begins_of branches) (asks_at_servers rows branches arrivals.job)
forkjoin-load rows branches arrivals load =
    let sound = sound-branches load.columns branches load.sound in
    let few = sound.few in
    let asked = flat_map (λ demands. demands) branches in
    let begins = begins-long branches in
    let demands : length (asks_at_servers rows branches arrivals.job) ≡ length asked = length-map asked _ in
    record {
      few = load.few;
      early = Each-get_or (λ time. time ≤ 1152921504606846976) arrivals.time load.ordered.early;
      columns = loads-sound rows (ForkJoin branches) asked asked arrivals (asks_at_servers rows branches arrivals.job) load refl (demands-told rows asked arrivals.job load.told) refl;
      servers = omega arith;
      each = omega arith;
    }

module _ (law : AlikeIsFirst) (rows : Rows) (branches : List (List Demand)) (arrivals : Stream) (load : IsLoad rows (ForkJoin branches) arrivals) (block first : ℕ) (carries : List (List ℕ)) (inside : first * block ≤ length arrivals.time) where
  abbrev new : Coming
  new = coming_as rows arrivals

  abbrev demands : List (List ℕ)
  demands = asks_at_servers rows branches arrivals.job

  abbrev none : List ℕ
  none = replicate 8 0

  module _ (fates : List Fate) (stays : IsForkJoinStaying branches new block first fates carries) where
    within : first * block ≤ length stays.0.arrive
    within =
        let even = stays.2.even in
        let same = stays.2.same in
        let few = (law (ForkJoin branches) stays.0 new).old_few in
        omega arith

    same : (k : ℕ) → k < first * block → (last : List ℕ) → forkjoin_does branches stays.0 k last ≡ forkjoin_does branches new k last
    same k l last = let all = stays.2.same in forkjoin-same law stays.0 new k branches last (omega arith)

    pub few-kept : first ≤ length carries
    few-kept = first-few (fold max 0) (forkjoin_does branches stays.0) (forkjoin_does branches new) none (length stays.0.arrive) block stays.1.times carries stays.1.scan first within same

    begins : (carry : List ℕ) → slice_get (none ∷ carries) first ≡ Some carry → carry ≡ fold_to (forkjoin_does branches new) none (λ k. k) (first * block)
    begins = carry-is (fold max 0) (forkjoin_does branches stays.0) (forkjoin_does branches new) none (length stays.0.arrive) block stays.1.times carries stays.1.scan first within same

    -- the last jobs may act on the carry before them
    pub acts : (step : ForkJoinStep) (carry : List ℕ) → step.arrive.now ≡ drop (first * block) arrivals.time → step.begins.now ≡ begins_of branches → step.demands.now ≡ map (drop (first * block)) demands → slice_get (none ∷ carries) first ≡ Some carry → MayAct jobs_act CanServe (one_job step) (length step.arrive.now) carry
    acts step carry a b d at =
        forkjoin-acts step arrivals.time (begins_of branches) demands (first * block) carry (forkjoin-load rows branches arrivals load) inside a b d
        (begins carry at ∙ runs-fold arrivals.time (begins_of branches) demands none (first * block))

    module _ (blocks last : Blocks) (all : blocks.n ≡ length arrivals.time) (size : blocks.block ≡ block) (cut : last.block ≡ block) (step : ForkJoinStep) (count : last.n ≡ length step.arrive.now) (a : step.arrive.now ≡ drop (first * block) arrivals.time) (b : step.begins.now ≡ begins_of branches) (d : step.demands.now ≡ map (drop (first * block)) demands)
        (carry : List ℕ) (at : slice_get (none ∷ carries) first ≡ Some carry) (times : List ℕ) (behind : List (List ℕ)) (done : AreDone (fold max 0) jobs_act carry (one_job step) last last.blocks times behind) where
      does_as : (k : ℕ) (x : List ℕ) → jobs_act (one_job step k) x ≡ forkjoin_does branches new (first * block + k) x
      does_as k x =
          one-acts step k x
          ∙ (λ i. job_run ((ap (λ (ts : List ℕ). get_or ts k 0) a ∙ get_or-drop (first * block) arrivals.time k 0) i) 0 (b i) ((ap (λ (columns : List (List ℕ)). asked_at columns k) d ∙ servers-last demands (first * block) k) i) x)

      -- what is kept of all jobs
      scan : IsKeptScan (fold max 0) (forkjoin_does branches new) none (length arrivals.time) block (take (first * block) stays.1.times ++ times) (take first carries ++ behind)
      scan =
          let many = ap length a ∙ length-drop (first * block) arrivals.time in
          subst (λ (n : ℕ). IsKeptScan (fold max 0) (forkjoin_does branches new) none n block (take (first * block) stays.1.times ++ times) (take first carries ++ behind)) all
          (scan-behind (fold max 0) (forkjoin_does branches stays.0) (forkjoin_does branches new) none (length stays.0.arrive) block stays.1.times carries stays.1.scan first within same jobs_act (one_job step) carry blocks last times behind size cut (omega arith) at (λ k l x. does_as k x) done)

      pub station : IsKeptForkJoin branches new block (take (first * block) fates ++ map (λ time. Departs time) times) (take first carries ++ behind)
      station = record { times = take (first * block) stays.1.times ++ times; fates_are = fates-behind (first * block) fates stays.1.times times stays.1.fates_are; scan = scan }

      pub served : AreServed rows (ForkJoin branches) arrivals (take (first * block) stays.1.times ++ times)
      served =
          let n = length arrivals.time in
          let sound = sound-branches load.columns branches load.sound in
          let two = sound.some in
          let their = branch_demands rows branches arrivals.job in
          let f : Demand → List ℕ = (λ demand. map (demand_of_job rows demand) arrivals.job) in
          let columns : servers_of their ≡ demands = flat-map f branches in
          let firsts : begins_of their ≡ begins_of branches = begins-map f branches in
          let each = (forkjoin-load rows branches arrivals load).each in
          let eight = (forkjoin-load rows branches arrivals load).servers in
          let many : length (servers_of their) ≡ length demands = ap length columns in
          let asked : length demands ≡ length (flat_map (λ ds. ds) branches) = length-map (flat_map (λ ds. ds) branches) f in
          let some = some-server branches (omega arith) sound.served in
          forkjoin-departs rows branches arrivals their (take (first * block) stays.1.times ++ times) refl
          (kept-times (fold max 0) (forkjoin_does branches new) none n block (take (first * block) stays.1.times ++ times) (take first carries ++ behind) scan
          ∙ all-departures (forkjoin_does branches new) (λ k. k) arrivals.time their
          (λ k. runs-fold arrivals.time (begins_of branches) demands none k ∙ (λ i. range_run arrivals.time (sym firsts i) (sym columns i) 0 k none))
          (subst (All (λ column. IsSoundLoad arrivals.time column)) (sym columns) (forkjoin-load rows branches arrivals load).columns) (omega arith) (omega arith))

  -- the same by the kept departures
  pub served-behind : (kept : List ℕ) (stays : IsForkJoinStaying branches new block first (map (λ time. Departs time) kept) carries) (times : List ℕ) → AreServed rows (ForkJoin branches) arrivals (take (first * block) stays.1.times ++ times) → AreServed rows (ForkJoin branches) arrivals (take (first * block) kept ++ times)
  served-behind kept stays times h = subst (λ (them : List ℕ). AreServed rows (ForkJoin branches) arrivals (take (first * block) them ++ times)) (sym (times-told kept stays.1.times stays.1.fates_are)) h
