-- Where a node has no difference its jobs ask for the same, and what is kept of it stays.
use Rattle.std.proofs.Common.{◌≡◌, ◌==◌, ℕ, true, List, [], ◌∷◌, ◌++◌, length, map, refl, sym, ap, ◌∙◌, subst, arith, eqb-true}
use Rattle.std.specs.Prelude.{fold, max, replicate, slice_index}
use Rattle.std.specs.List.{AllByRecursion as Each, flat_map, list_all}
use Rattle.std.proofs.lemmas.List.{map-append}
use Rattle.std.proofs.lemmas.Option.{get_or_from_slice_get}
use Rattle.mq_alike.proofs.Asking.{demands-each, of-first, one-each}
use Rattle.mq_alike.specs.Again.{AlikeBelow, Coming, alike, asks_same, same_demand}
use Rattle.mq_core.specs.Handling.{demand_of_job}
use Rattle.mq_core.specs.Kinds.Split.{output_at, route_value}
use Rattle.mq_core.specs.declared.model.Demand.{Demand}
use Rattle.mq_core.specs.declared.model.Fate.{Fate}
use Rattle.mq_core.specs.declared.model.Kind.{Kind}
use Rattle.mq_core.specs.declared.model.Kind.TheVariants.{Delay, Fork, ForkJoin, Join, Loss, Server, Source, Split, Tandem, Trunk}
use Rattle.mq_core.specs.declared.model.Route.{Route}
use Rattle.mq_core.specs.declared.model.Rows.{Rows}
use Rattle.mq_core.specs.declared.model.Stage.{Stage}
use Rattle.mq_engine.proofs.Gathers.{each-found}
use Rattle.mq_forkjoin.specs.Servers.{begins_of}
use Rattle.mq_forkjoin.specs.Runs.{asked_at, job_run}
use Rattle.mq_maxplus.specs.Matrices.{matrix_act}
use Rattle.mq_maxplus.specs.Maxplus.{affine_act, mp_or_zero}
use Rattle.mq_maxplus.specs.declared.mp.Mp.{Mp}
use Rattle.mq_maxplus.specs.declared.mp.Mp.TheVariants.{Void}
use Rattle.mq_kept.specs.Carries.{delay_carries, forkjoin_carries, server_carries, split_carries, split_outs, tandem_carries}
use Rattle.mq_kept.specs.KeptNodes.{IsKeptNode}
use Rattle.mq_kept.specs.declared.checkpoints.Checkpoints.{Checkpoints}
use Rattle.mq_redo.specs.Alone.{as_is, delay_job, own_only}
use Rattle.mq_redo.specs.Branches.{asks_at_servers}
use Rattle.mq_redo.specs.Kept.{IsKeptDelay, IsKeptForkJoin, IsKeptServer, IsKeptSplit, IsKeptTandem}
use Rattle.mq_redo.specs.Stages.{asks_at_stages, last_departure, places_of}
use Rattle.mq_redo.specs.Staying.{IsKeptScan, IsKeptStation}
use Rattle.mq_server.specs.Jobs.{job}
use Rattle.mq_tandem.specs.Rows.{job_matrix, none_kept}

-- the demands of all stages
stages-each : (rows rows' : Rows) (stages : List Stage) (jobs : List ℕ) → Each (λ job. list_all (λ (stage : Stage). same_demand rows rows' job stage.demand) stages ≡ true) jobs → asks_at_stages rows stages jobs ≡ asks_at_stages rows' stages jobs
stages-each rows rows' [] jobs h = refl
stages-each rows rows' (stage ∷ stages) jobs h =
    let parts = of-first (λ job (stage : Stage). same_demand rows rows' job stage.demand) stage stages jobs h in
    (λ i. one-each rows rows' stage.demand jobs parts.0 i ∷ stages-each rows rows' stages jobs parts.1 i)

-- those of all branches
servers-each : (rows rows' : Rows) (branches : List (List Demand)) (jobs : List ℕ) → Each (λ job. list_all (λ demands. list_all (same_demand rows rows' job) demands) branches ≡ true) jobs → asks_at_servers rows branches jobs ≡ asks_at_servers rows' branches jobs
servers-each rows rows' [] jobs h = refl
servers-each rows rows' (demands ∷ branches) jobs h =
    let parts = of-first (λ job demands. list_all (same_demand rows rows' job) demands) demands branches jobs h in
    let rest = flat_map (λ (demands : List Demand). demands) branches in
    map-append (λ demand. map (demand_of_job rows demand) jobs) demands rest
    ∙ ((λ i. demands-each rows rows' demands jobs parts.0 i ++ servers-each rows rows' branches jobs parts.1 i)
    ∙ sym (map-append (λ demand. map (demand_of_job rows' demand) jobs) demands rest))

-- the values that a route looks at
values-each : (rows rows' : Rows) (route : Route) (jobs : List ℕ) → Each (λ job. (route_value rows route job == route_value rows' route job) ≡ true) jobs → map (route_value rows route) jobs ≡ map (route_value rows' route) jobs
values-each rows rows' route [] h = refl
values-each rows rows' route (job ∷ jobs) h = (λ i. eqb-true (route_value rows route job) (route_value rows' route job) h.0 i ∷ values-each rows rows' route jobs h.1 i)

-- the same jobs come at the same times, and ask for the same
pub record IsSameComing (kind : Kind) (old new : Coming) : Type 0 where
  pub jobs : old.job ≡ new.job
  pub arrives : old.arrive ≡ new.arrive
  pub ask : Each (λ job. asks_same old.rows new.rows kind job ≡ true) old.job

-- so it is where there is no difference
pub same-coming : (kind : Kind) (old new : Coming) → AlikeBelow kind old new → alike kind old new ≡ length old.job → old.job ≡ new.job → old.arrive ≡ new.arrive → IsSameComing kind old new
same-coming kind old new below all jobs arrives = record {
  jobs = jobs;
  arrives = arrives;
  ask = each-found (λ job. asks_same old.rows new.rows kind job ≡ true) old.job (λ k d l.
      let h = below.each k (omega arith) in
      subst (λ (job : ℕ). asks_same old.rows new.rows kind job ≡ true) (sym (get_or_from_slice_get old.job k h.job d h.old_job)) h.asks);
}

-- then what is kept of it stays
module _ (old new : Coming) (block : ℕ) where
  pub server-stays : (demand : Demand) (fates : List Fate) (carries : List Mp) → IsSameComing (Server demand) old new → IsKeptServer demand old block fates carries → IsKeptServer demand new block fates carries
  server-stays demand fates carries s =
      subst (λ (p : List ℕ × List ℕ). IsKeptStation mp_or_zero (λ k last. affine_act (job p.0 p.1 k) last) Void (length p.0) block fates carries)
      (λ i. (s.arrives i, (one-each old.rows new.rows demand old.job s.ask ∙ ap (map (demand_of_job new.rows demand)) s.jobs) i))

  pub delay-stays : (demand : Demand) (fates : List Fate) (carries : List ℕ) → IsSameComing (Delay demand) old new → IsKeptDelay demand old block fates carries → IsKeptDelay demand new block fates carries
  delay-stays demand fates carries s =
      subst (λ (p : List ℕ × List ℕ). IsKeptStation as_is (λ k last. own_only (delay_job p.0 p.1 k) last) 0 (length p.0) block fates carries)
      (λ i. (s.arrives i, (one-each old.rows new.rows demand old.job s.ask ∙ ap (map (demand_of_job new.rows demand)) s.jobs) i))

  pub tandem-stays : (stages : List Stage) (fates : List Fate) (carries : List (List Mp)) → IsSameComing (Tandem stages) old new → IsKeptTandem stages old block fates carries → IsKeptTandem stages new block fates carries
  tandem-stays stages fates carries s =
      subst (λ (p : List ℕ × List (List ℕ)). IsKeptStation (last_departure (places_of stages)) (λ k rows. matrix_act (job_matrix (places_of stages) p.0 p.1 k) rows) (none_kept (places_of stages)) (length p.0) block fates carries)
      (λ i. (s.arrives i, (stages-each old.rows new.rows stages old.job s.ask ∙ ap (asks_at_stages new.rows stages) s.jobs) i))

  pub forkjoin-stays : (branches : List (List Demand)) (fates : List Fate) (carries : List (List ℕ)) → IsSameComing (ForkJoin branches) old new → IsKeptForkJoin branches old block fates carries → IsKeptForkJoin branches new block fates carries
  forkjoin-stays branches fates carries s =
      subst (λ (p : List ℕ × List (List ℕ)). IsKeptStation (fold max 0) (λ k last. job_run (slice_index p.0 k) 0 (begins_of branches) (asked_at p.1 k) last) (replicate 8 0) (length p.0) block fates carries)
      (λ i. (s.arrives i, (servers-each old.rows new.rows branches old.job s.ask ∙ ap (asks_at_servers new.rows branches) s.jobs) i))

  pub split-stays : (route : Route) (outs carries : List ℕ) → IsSameComing (Split route) old new → IsKeptSplit route old block outs carries → IsKeptSplit route new block outs carries
  split-stays route outs carries s =
      subst (λ (p : List ℕ × List ℕ). IsKeptScan as_is (λ k last. own_only (output_at route (slice_index p.1 k) k) last) 0 (length p.0) block outs carries)
      (λ i. (s.jobs i, (values-each old.rows new.rows route old.job s.ask ∙ ap (map (route_value new.rows route)) s.jobs) i))

-- so it is by kind; of a node that is worked out whole nothing is kept
pub kept-stays : (kind : Kind) (old new : Coming) (block : ℕ) (fates : List Fate) (checkpoints : Checkpoints) → IsSameComing kind old new → IsKeptNode kind old block fates checkpoints → IsKeptNode kind new block fates checkpoints
kept-stays Source old new block fates checkpoints s m = tt
kept-stays (Server demand) old new block fates checkpoints s m = server-stays old new block demand fates (server_carries checkpoints) s m
kept-stays (Delay demand) old new block fates checkpoints s m = delay-stays old new block demand fates (delay_carries checkpoints) s m
kept-stays (Loss places demand) old new block fates checkpoints s m = tt
kept-stays (Tandem stages) old new block fates checkpoints s m = tandem-stays old new block stages fates (tandem_carries checkpoints) s m
kept-stays (ForkJoin branches) old new block fates checkpoints s m = forkjoin-stays old new block branches fates (forkjoin_carries checkpoints) s m
kept-stays (Split route) old new block fates checkpoints s m = split-stays old new block route (split_outs checkpoints) (split_carries checkpoints) s m
kept-stays (Fork outputs) old new block fates checkpoints s m = tt
kept-stays Join old new block fates checkpoints s m = tt
kept-stays (Trunk servers demand) old new block fates checkpoints s m = tt
