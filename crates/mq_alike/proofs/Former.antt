-- What a job asks for by the rows of before edits: the same as after them, below the first row that was set, and else what the former rows tell.
use Rattle.std.proofs.Common.{◌≡◌, ◌∙◌, ◌<◌, ◌≤◌, ◌+◌, ◌-◌, ◌++◌, ◌&&◌, ℕ, zero, suc, true, List, [], ◌∷◌, length, take, get_or, Some, refl, sym, ap, subst, arith, eq-eqb, length-append}
use Rattle.std.specs.Prelude.{slice_get}
use Rattle.std.specs.List.{AllByRecursion as Each, list_all}
use Rattle.std.proofs.lemmas.Grind.{common_steps}
use Rattle.std.proofs.lemmas.List.{get_or-append_right}
use Rattle.mq_core.specs.Asked.{HasDemands}
use Rattle.mq_core.specs.Handling.{column_value, demand_of_job}
use Rattle.mq_core.specs.Kinds.Split.{HasRouteValue, route_value}
use Rattle.mq_core.specs.Told.{HasDemand}
use Rattle.mq_core.specs.declared.model.Demand.{Demand}
use Rattle.mq_core.specs.declared.model.Demand.TheVariants.{Column, Fixed}
use Rattle.mq_core.specs.declared.model.Kind.{Kind}
use Rattle.mq_core.specs.declared.model.Kind.TheVariants.{Delay, Fork, ForkJoin, Join, Loss, Server, Source, Split, Tandem, Trunk}
use Rattle.mq_core.specs.declared.model.Route.{Route}
use Rattle.mq_core.specs.declared.model.Route.TheVariants.{Cut, Modulo, Turn}
use Rattle.mq_core.specs.declared.model.Rows.{Rows}
use Rattle.mq_core.specs.declared.model.Stage.{Stage}
use Rattle.mq_edits.specs.Former.{columns_before, rows_before}
use Rattle.mq_edits.specs.declared.former.FormerRows.{FormerRows}
use Rattle.mq_alike.specs.Again.{asks_same, same_demand, same_visit}
use Rattle.mq_alike.proofs.Same.{told-branches, told-stages}

-- the value of a job in a column is there
abbrev IsThere : List (List ℕ) → ℕ → ℕ → Type 0
IsThere columns at job = (at < length columns) × ((values : List ℕ) → slice_get columns at ≡ Some values → job < length values)

-- below the first row that was set
value_below : (from job : ℕ) (formers columns : List (List ℕ)) (at : ℕ) → job < from → at < length (columns_before from formers columns) → IsThere columns at job
    → column_value (slice_get (columns_before from formers columns) at) job ≡ column_value (slice_get columns at) job
value_below from job [] columns at less inside there = absurd (omega arith)
value_below from job (former ∷ formers) [] at less inside there = absurd (omega arith)
value_below from job (former ∷ formers) (column ∷ columns) zero less inside there = let long = there.1 column refl in grind (arith, common_steps)
value_below from job (former ∷ formers) (column ∷ columns) (suc at) less inside there = value_below from job formers columns at less (omega arith) (omega (arith, there.0), there.1)

-- from that row on
value_behind : (from job : ℕ) (formers columns : List (List ℕ)) (at : ℕ) → from ≤ job → IsThere (columns_before from formers columns) at job → IsThere columns at job
    → IsThere formers at (job - from) × (column_value (slice_get (columns_before from formers columns) at) job ≡ column_value (slice_get formers at) (job - from))
value_behind from job [] columns at less before there = let none = before.0 in absurd (omega arith)
value_behind from job (former ∷ formers) [] at less before there = let none = before.0 in absurd (omega arith)
value_behind from job (former ∷ formers) (column ∷ columns) zero less before there =
    let long = there.1 column refl in
    let all = before.1 (take from column ++ former) refl in
    let front : length (take from column) ≡ from = grind (arith, common_steps) in
    let both = length-append (take from column) former in
    ((omega arith, λ values is. let same : values ≡ former = cc in rw same (omega arith)), get_or-append_right (take from column) former from job 0 front less)
value_behind from job (former ∷ formers) (column ∷ columns) (suc at) less before there =
    let (is_there, same) = value_behind from job formers columns at less (omega (arith, before.0), before.1) (omega (arith, there.0), there.1) in
    ((omega (arith, is_there.0), is_there.1), same)

module _ (former : FormerRows) (rows : Rows) (job : ℕ) where
  -- what a job asks for below that row
  demand_below : (demand : Demand) → job < former.from → HasDemand (rows_before former rows) demand job → HasDemand rows demand job → same_demand (rows_before former rows) rows job demand ≡ true
  demand_below (Column column) less before there = eq-eqb _ _ (value_below former.from job former.rows.demands rows.demands column less before.inside (there.inside, there.reaches))
  demand_below (Fixed demand) less before there = eq-eqb demand demand refl

  stages_below : (stages : List Stage) → job < former.from → Each (λ (stage : Stage). HasDemand (rows_before former rows) stage.demand job) stages → Each (λ (stage : Stage). HasDemand rows stage.demand job) stages
      → list_all (λ (stage : Stage). same_demand (rows_before former rows) rows job stage.demand) stages ≡ true
  stages_below [] less before there = refl
  stages_below (stage ∷ stages) less before there = (λ i. demand_below stage.demand less before.0 there.0 i && stages_below stages less before.1 there.1 i)

  demands_below : (demands : List Demand) → job < former.from → Each (λ demand. HasDemand (rows_before former rows) demand job) demands → Each (λ demand. HasDemand rows demand job) demands
      → list_all (same_demand (rows_before former rows) rows job) demands ≡ true
  demands_below [] less before there = refl
  demands_below (demand ∷ demands) less before there = (λ i. demand_below demand less before.0 there.0 i && demands_below demands less before.1 there.1 i)

  branches_below : (branches : List (List Demand)) → job < former.from → Each (λ demands. Each (λ demand. HasDemand (rows_before former rows) demand job) demands) branches → Each (λ demands. Each (λ demand. HasDemand rows demand job) demands) branches
      → list_all (λ demands. list_all (same_demand (rows_before former rows) rows job) demands) branches ≡ true
  branches_below [] less before there = refl
  branches_below (demands ∷ branches) less before there = (λ i. demands_below demands less before.0 there.0 i && branches_below branches less before.1 there.1 i)

  route_below : (route : Route) → job < former.from → HasRouteValue (rows_before former rows) route job → HasRouteValue rows route job → asks_same (rows_before former rows) rows (Split route) job ≡ true
  route_below (Modulo outputs column) less before there = demand_below (Column column) less before there
  route_below (Turn outputs) less before there = refl
  route_below (Cut column thresholds) less before there = demand_below (Column column) less before there

  pub asks_below : (kind : Kind) → job < former.from → HasDemands (rows_before former rows) kind job → HasDemands rows kind job → asks_same (rows_before former rows) rows kind job ≡ true
  asks_below Source less before there = refl
  asks_below (Server demand) less before there = demand_below demand less before.0 there.0
  asks_below (Delay demand) less before there = demand_below demand less before.0 there.0
  asks_below (Loss places demand) less before there = demand_below demand less before.0 there.0
  asks_below (Tandem stages) less before there = stages_below stages less (told-stages (rows_before former rows) (Tandem stages) stages job before refl) (told-stages rows (Tandem stages) stages job there refl)
  asks_below (ForkJoin branches) less before there = branches_below branches less (told-branches (rows_before former rows) (ForkJoin branches) branches job before refl) (told-branches rows (ForkJoin branches) branches job there refl)
  asks_below (Split route) less before there = route_below route less before there
  asks_below (Fork outputs) less before there = refl
  asks_below Join less before there = refl
  asks_below (Trunk servers demand) less before there = demand_below demand less before.0 there.0

  -- what it asks for from that row on
  pub told_behind : (demand : Demand) → former.from ≤ job → HasDemand (rows_before former rows) demand job → HasDemand rows demand job → HasDemand former.rows demand (job - former.from)
  told_behind (Column column) less before there =
      let is_there = (value_behind former.from job former.rows.demands rows.demands column less (before.inside, before.reaches) (there.inside, there.reaches)).0 in
      record { inside = is_there.0; reaches = is_there.1 }
  told_behind (Fixed demand) less before there = tt

  pub demand_behind : (demand : Demand) → former.from ≤ job → HasDemand (rows_before former rows) demand job → HasDemand rows demand job
      → demand_of_job (rows_before former rows) demand job ≡ demand_of_job former.rows demand (job - former.from)
  demand_behind (Column column) less before there = (value_behind former.from job former.rows.demands rows.demands column less (before.inside, before.reaches) (there.inside, there.reaches)).1
  demand_behind (Fixed demand) less before there = refl

  -- visits of one job, which comes at one time, are the same below that row
  pub visits_below : (kind : Kind) (old arrive new time : ℕ) → old ≡ job → new ≡ job → arrive ≡ time → job < former.from → HasDemands (rows_before former rows) kind old → HasDemands rows kind new
      → same_visit kind (rows_before former rows) old arrive rows new time ≡ true
  visits_below kind old arrive new time one two at less before there =
      let asks = asks_below kind less (subst (λ j. HasDemands (rows_before former rows) kind j) one before) (subst (λ j. HasDemands rows kind j) two there) in
      (λ i. eq-eqb old new (one ∙ sym two) i && (eq-eqb arrive time at i && (ap (asks_same (rows_before former rows) rows kind) two ∙ asks) i))
