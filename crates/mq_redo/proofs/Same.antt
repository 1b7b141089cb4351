-- Jobs before the first difference of two runs do the same in both.
use Rattle.std.proofs.Common.{◌≡◌, ℕ, ◌+◌, ◌<◌, true, List, [], ◌∷◌, ◌++◌, drop, get_or, map, Some, slice_get, refl, sym, ap, ◌∙◌, eqb-true}
use Rattle.std.specs.List.{flat_map, list_all}
use Rattle.std.specs.Option.{option_map}
use Rattle.std.proofs.lemmas.Bool.{and_parts}
use Rattle.std.proofs.lemmas.List.{map-append}
use Rattle.std.proofs.lemmas.Option.{get_or_from_slice_get, slice_get-map}
use Rattle.mq_alike.specs.Again.{AlikeIsFirst, Coming, alike, same_demand}
use Rattle.mq_base.proofs.lemmas.Lists.{drop_at}
use Rattle.mq_core.specs.Handling.{demand_of_job}
use Rattle.mq_core.specs.Kinds.Split.{output_at, route_value}
use Rattle.mq_core.specs.Recurrences.{firsts, time_or_none}
use Rattle.mq_core.specs.declared.model.Demand.{Demand}
use Rattle.mq_core.specs.declared.model.Kind.TheVariants.{Delay, ForkJoin, Server, Split, Tandem}
use Rattle.mq_core.specs.declared.model.Route.{Route}
use Rattle.mq_core.specs.declared.model.Rows.{Rows}
use Rattle.mq_core.specs.declared.model.Stage.{Stage}
use Rattle.mq_forkjoin.specs.Runs.{asked_at, job_run}
use Rattle.mq_forkjoin.specs.Servers.{begins_of}
use Rattle.mq_maxplus.specs.Maxplus.{affine, affine_act, mp_plus}
use Rattle.mq_maxplus.specs.Matrices.{entry, matrix_act, unit_matrix}
use Rattle.mq_maxplus.specs.declared.mp.Mp.{Mp}
use Rattle.mq_maxplus.specs.declared.mp.Mp.TheVariants.{At}
use Rattle.mq_redo.specs.Branches.{asks_at_servers}
use Rattle.mq_redo.specs.Kept.{delay_does, forkjoin_does, server_does, split_does, tandem_does}
use Rattle.mq_redo.specs.Stages.{asks_at_stages, places_of}
use Rattle.mq_tandem.specs.Rows.{kept, passed, zero_row}

-- an item of a mapped list
map-get : {X Y : Type 0} (f : X → Y) (xs : List X) (k : ℕ) (x : X) → slice_get xs k ≡ Some x → slice_get (map f xs) k ≡ Some (f x)
map-get f xs k x e = slice_get-map f xs k ∙ ap (option_map f) e

map-index : (f : ℕ → ℕ) (xs : List ℕ) (k x : ℕ) → slice_get xs k ≡ Some x → get_or (map f xs) k 0 ≡ f x
map-index f xs k x e = get_or_from_slice_get (map f xs) k (f x) 0 (map-get f xs k x e)

-- one demand, of a visit in both runs
one-same : (demand : Demand) (old new : Coming) (k j : ℕ) → slice_get old.job k ≡ Some j → slice_get new.job k ≡ Some j → same_demand old.rows new.rows j demand ≡ true → get_or (map (demand_of_job old.rows demand) old.job) k 0 ≡ get_or (map (demand_of_job new.rows demand) new.job) k 0
one-same demand old new k j a b e = map-index (demand_of_job old.rows demand) old.job k j a ∙ (eqb-true (demand_of_job old.rows demand j) (demand_of_job new.rows demand j) e ∙ sym (map-index (demand_of_job new.rows demand) new.job k j b))

arrive-same : (old new : Coming) (k t : ℕ) → slice_get old.arrive k ≡ Some t → slice_get new.arrive k ≡ Some t → get_or old.arrive k 0 ≡ get_or new.arrive k 0
arrive-same old new k t a b = get_or_from_slice_get old.arrive k t 0 a ∙ sym (get_or_from_slice_get new.arrive k t 0 b)

-- the demands of a job at all stages
asked-firsts : (rows : Rows) (asked : List Demand) (jobs : List ℕ) (k j : ℕ) → slice_get jobs k ≡ Some j → firsts (map (drop k) (map (λ demand. map (demand_of_job rows demand) jobs) asked)) ≡ map (λ demand. demand_of_job rows demand j) asked
asked-firsts rows [] jobs k j e = refl
asked-firsts rows (demand ∷ asked) jobs k j e =
    let column = map (demand_of_job rows demand) jobs in
    let here : time_or_none (slice_get (drop k column) 0) ≡ demand_of_job rows demand j = ap (λ xs. time_or_none (slice_get xs 0)) (drop_at column k (demand_of_job rows demand j) (map-get (demand_of_job rows demand) jobs k j e)) in
    (λ i. here i ∷ asked-firsts rows asked jobs k j e i)

asked-same : (rows rows' : Rows) (j : ℕ) (stages : List Stage) → list_all (λ (stage : Stage). same_demand rows rows' j stage.demand) stages ≡ true → map (λ demand. demand_of_job rows demand j) (map (λ (stage : Stage). stage.demand) stages) ≡ map (λ demand. demand_of_job rows' demand j) (map (λ (stage : Stage). stage.demand) stages)
asked-same rows rows' j [] e = refl
asked-same rows rows' j (stage ∷ stages) e =
    let parts = and_parts (same_demand rows rows' j stage.demand) (list_all (λ (stage : Stage). same_demand rows rows' j stage.demand) stages) e in
    let here = eqb-true (demand_of_job rows stage.demand j) (demand_of_job rows' stage.demand j) parts.0 in
    (λ i. here i ∷ asked-same rows rows' j stages parts.1 i)

-- what a job asks for at each server
asked-flat : (rows : Rows) (asked : List Demand) (jobs : List ℕ) (k j : ℕ) → slice_get jobs k ≡ Some j → asked_at (map (λ demand. map (demand_of_job rows demand) jobs) asked) k ≡ map (λ demand. demand_of_job rows demand j) asked
asked-flat rows [] jobs k j e = refl
asked-flat rows (demand ∷ asked) jobs k j e = (λ i. map-index (demand_of_job rows demand) jobs k j e i ∷ asked-flat rows asked jobs k j e i)

each-same : (rows rows' : Rows) (j : ℕ) (demands : List Demand) → list_all (same_demand rows rows' j) demands ≡ true → map (λ demand. demand_of_job rows demand j) demands ≡ map (λ demand. demand_of_job rows' demand j) demands
each-same rows rows' j [] e = refl
each-same rows rows' j (demand ∷ demands) e =
    let parts = and_parts (same_demand rows rows' j demand) (list_all (same_demand rows rows' j) demands) e in
    (λ i. eqb-true (demand_of_job rows demand j) (demand_of_job rows' demand j) parts.0 i ∷ each-same rows rows' j demands parts.1 i)

flat-same : (rows rows' : Rows) (j : ℕ) (branches : List (List Demand)) → list_all (λ demands. list_all (same_demand rows rows' j) demands) branches ≡ true → map (λ demand. demand_of_job rows demand j) (flat_map (λ demands. demands) branches) ≡ map (λ demand. demand_of_job rows' demand j) (flat_map (λ demands. demands) branches)
flat-same rows rows' j [] e = refl
flat-same rows rows' j (demands ∷ branches) e =
    let parts = and_parts (list_all (same_demand rows rows' j) demands) (list_all (λ demands. list_all (same_demand rows rows' j) demands) branches) e in
    map-append (λ demand. demand_of_job rows demand j) demands (flat_map (λ demands. demands) branches)
    ∙ ((λ i. each-same rows rows' j demands parts.0 i ++ flat-same rows rows' j branches parts.1 i)
    ∙ sym (map-append (λ demand. demand_of_job rows' demand j) demands (flat_map (λ demands. demands) branches)))

module _ (law : AlikeIsFirst) (old new : Coming) (k : ℕ) where
  pub server-same : (demand : Demand) (last : Mp) → k < alike (Server demand) old new → server_does demand old k last ≡ server_does demand new k last
  server-same demand last l =
      let h = (law (Server demand) old new).each k l in
      let d = one-same demand old new k h.job h.old_job h.new_job h.asks in
      let a = arrive-same old new k h.arrive h.old_arrive h.new_arrive in
      (λ i. affine_act (affine (d i) (At (a i + d i))) last)

  pub delay-same : (demand : Demand) (last : ℕ) → k < alike (Delay demand) old new → delay_does demand old k last ≡ delay_does demand new k last
  delay-same demand last l =
      let h = (law (Delay demand) old new).each k l in
      let d = one-same demand old new k h.job h.old_job h.new_job h.asks in
      let a = arrive-same old new k h.arrive h.old_arrive h.new_arrive in
      (λ i. a i + d i)

  pub tandem-same : (stages : List Stage) (last : List Mp) → k < alike (Tandem stages) old new → tandem_does stages old k last ≡ tandem_does stages new k last
  tandem-same stages last l =
      let h = (law (Tandem stages) old new).each k l in
      let asked = map (λ (stage : Stage). stage.demand) stages in
      let d : firsts (map (drop k) (asks_at_stages old.rows stages old.job)) ≡ firsts (map (drop k) (asks_at_stages new.rows stages new.job)) =
      asked-firsts old.rows asked old.job k h.job h.old_job ∙ (asked-same old.rows new.rows h.job stages h.asks ∙ sym (asked-firsts new.rows asked new.job k h.job h.new_job)) in
      let a = arrive-same old new k h.arrive h.old_arrive h.new_arrive in
      (λ i. matrix_act (map (λ rows. passed (mp_plus (entry rows (zero_row (places_of stages))) (At (a i))) (kept (places_of stages)) (d i) rows) (unit_matrix (zero_row (places_of stages) + 1))) last)

  pub forkjoin-same : (branches : List (List Demand)) (last : List ℕ) → k < alike (ForkJoin branches) old new → forkjoin_does branches old k last ≡ forkjoin_does branches new k last
  forkjoin-same branches last l =
      let h = (law (ForkJoin branches) old new).each k l in
      let asked = flat_map (λ demands. demands) branches in
      let d : asked_at (asks_at_servers old.rows branches old.job) k ≡ asked_at (asks_at_servers new.rows branches new.job) k =
      asked-flat old.rows asked old.job k h.job h.old_job ∙ (flat-same old.rows new.rows h.job branches h.asks ∙ sym (asked-flat new.rows asked new.job k h.job h.new_job)) in
      let a = arrive-same old new k h.arrive h.old_arrive h.new_arrive in
      (λ i. job_run (a i) 0 (begins_of branches) (d i) last)

  pub split-same : (route : Route) (last : ℕ) → k < alike (Split route) old new → split_does route old k last ≡ split_does route new k last
  split-same route last l =
      let h = (law (Split route) old new).each k l in
      ap (λ (v : ℕ). output_at route v k) (map-index (route_value old.rows route) old.job k h.job h.old_job ∙ (eqb-true (route_value old.rows route h.job) (route_value new.rows route h.job) h.asks ∙ sym (map-index (route_value new.rows route) new.job k h.job h.new_job)))
