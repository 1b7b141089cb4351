-- Where two runs have no difference at a node, its fates and outputs are the same.
use Rattle.std.proofs.Common.{◌==◌, ◌&&◌, ◌≡◌, ℕ, suc, Bool, true, false, cond, List, [], ◌∷◌, length, map, refl, sym, ap, ◌∙◌, arith, eqb-true}
use Rattle.std.specs.List.{AllByRecursion as Each, list_all}
use Rattle.std.proofs.lemmas.Bool.{and_parts}
use Rattle.mq_core.specs.Came.{came_by}
use Rattle.mq_core.specs.Handling.{demand_of_job}
use Rattle.mq_core.specs.Kinds.ForkJoin.{branch_demands}
use Rattle.mq_core.specs.Kinds.Split.{output_at, route_value, routes_from}
use Rattle.mq_core.specs.KindTable.{behaviour_of}
use Rattle.mq_core.specs.OnceOut.{founds_of, once_out, out_of_fate}
use Rattle.mq_core.specs.Recurrences.{delayed, forkjoin_departs, lindley, loss_fates, tandem_departs, trunk_fates}
use Rattle.mq_core.specs.SequenceLaws.{SequencesGoByFates, sends_once}
use Rattle.mq_core.specs.Sequences.{sequence_fates, sequence_outs}
use Rattle.mq_core.specs.declared.model.Demand.{Demand}
use Rattle.mq_core.specs.declared.model.Fate.TheVariants.{Departs}
use Rattle.mq_core.specs.declared.model.Kind.{Kind}
use Rattle.mq_core.specs.declared.model.Kind.TheVariants.{Delay, Fork, ForkJoin, Join, Loss, Server, Source, Split, Tandem, Trunk}
use Rattle.mq_core.specs.declared.model.Route.{Route}
use Rattle.mq_core.specs.declared.model.Rows.{Rows}
use Rattle.mq_core.specs.declared.model.Stage.{Stage}
use Rattle.mq_alike.proofs.Asking.{demands-each, of-first, one-each}
use Rattle.mq_alike.specs.Again.{SequencesStay, alike_from, asks_same, same_demand, same_visit}

-- all visits are the same: the two have the same jobs at the same times, which ask for the same
record AllSame (kind : Kind) (rows rows' : Rows) (jobs arrives jobs' arrives' : List ℕ) : Type 0 where
  jobs_are : jobs ≡ jobs'
  arrives_are : arrives ≡ arrives'
  ask : Each (λ job. asks_same rows rows' kind job ≡ true) jobs

module _ (kind : Kind) (rows rows' : Rows) where
  all-same : (jobs arrives jobs' arrives' : List ℕ) → length arrives ≡ length jobs → length arrives' ≡ length jobs' → alike_from kind rows jobs arrives rows' jobs' arrives' ≡ length jobs → alike_from kind rows jobs arrives rows' jobs' arrives' ≡ length jobs' → AllSame kind rows rows' jobs arrives jobs' arrives'
  all-same [] [] [] [] a b c d = record { jobs_are = refl; arrives_are = refl; ask = tt }
  all-same [] (t ∷ ts) jobs' arrives' a b c d = absurd (omega arith)
  all-same [] [] (j ∷ js) arrives' a b c d = absurd (omega arith)
  all-same [] [] [] (t ∷ ts) a b c d = absurd (omega arith)
  all-same (j ∷ js) [] jobs' arrives' a b c d = absurd (omega arith)
  all-same (j ∷ js) (t ∷ ts) [] arrives' a b c d = absurd (omega arith)
  all-same (j ∷ js) (t ∷ ts) (j' ∷ js') [] a b c d = absurd (omega arith)
  all-same (j ∷ js) (t ∷ ts) (j' ∷ js') (t' ∷ ts') a b c d = go (same_visit kind rows j t rows' j' t') refl (all-same js ts js' ts') c d
    where
      go : (s : Bool) → same_visit kind rows j t rows' j' t' ≡ s
          → (length ts ≡ length js → length ts' ≡ length js' → alike_from kind rows js ts rows' js' ts' ≡ length js → alike_from kind rows js ts rows' js' ts' ≡ length js' → AllSame kind rows rows' js ts js' ts')
          → cond s (suc (alike_from kind rows js ts rows' js' ts')) 0 ≡ suc (length js) → cond s (suc (alike_from kind rows js ts rows' js' ts')) 0 ≡ suc (length js') → AllSame kind rows rows' (j ∷ js) (t ∷ ts) (j' ∷ js') (t' ∷ ts')
      go false e ih c d = absurd (omega arith)
      go true e ih c d =
          let parts = and_parts (j == j') ((t == t') && asks_same rows rows' kind j') e in
          let more = and_parts (t == t') (asks_same rows rows' kind j') parts.1 in
          let job = eqb-true j j' parts.0 in
          let time = eqb-true t t' more.0 in
          let rest = ih (omega arith) (omega arith) (omega arith) (omega arith) in
          record {
            jobs_are = (λ i. job i ∷ rest.jobs_are i);
            arrives_are = (λ i. time i ∷ rest.arrives_are i);
            ask = (ap (λ (k : ℕ). asks_same rows rows' kind k) job ∙ more.1, rest.ask);
          }

-- the demands of stages and of branches
stages-each : (rows rows' : Rows) (stages : List Stage) (jobs : List ℕ) → Each (λ job. list_all (λ (stage : Stage). same_demand rows rows' job stage.demand) stages ≡ true) jobs → map (λ (s : Stage). map (demand_of_job rows s.demand) jobs) stages ≡ map (λ (s : Stage). map (demand_of_job rows' s.demand) jobs) stages
stages-each rows rows' [] jobs h = refl
stages-each rows rows' (stage ∷ stages) jobs h =
    let parts = of-first (λ job (stage : Stage). same_demand rows rows' job stage.demand) stage stages jobs h in
    (λ i. one-each rows rows' stage.demand jobs parts.0 i ∷ stages-each rows rows' stages jobs parts.1 i)

branches-each : (rows rows' : Rows) (branches : List (List Demand)) (jobs : List ℕ) → Each (λ job. list_all (λ demands. list_all (same_demand rows rows' job) demands) branches ≡ true) jobs → branch_demands rows branches jobs ≡ branch_demands rows' branches jobs
branches-each rows rows' [] jobs h = refl
branches-each rows rows' (demands ∷ branches) jobs h =
    let parts = of-first (λ job demands. list_all (same_demand rows rows' job) demands) demands branches jobs h in
    (λ i. demands-each rows rows' demands jobs parts.0 i ∷ branches-each rows rows' branches jobs parts.1 i)

routes-each : (rows rows' : Rows) (route : Route) (position : ℕ) (jobs : List ℕ) → Each (λ job. (route_value rows route job == route_value rows' route job) ≡ true) jobs → routes_from rows route position jobs ≡ routes_from rows' route position jobs
routes-each rows rows' route position [] h = refl
routes-each rows rows' route position (job ∷ jobs) h = (λ i. output_at route (eqb-true (route_value rows route job) (route_value rows' route job) h.0 i) position ∷ routes-each rows rows' route (suc position) jobs h.1 i)

-- by kind
fates-same : (kind : Kind) (rows rows' : Rows) (jobs arrives : List ℕ) → sends_once kind ≡ true → Each (λ job. asks_same rows rows' kind job ≡ true) jobs → sequence_fates rows kind (came_by jobs arrives) ≡ sequence_fates rows' kind (came_by jobs arrives)
fates-same Source rows rows' jobs arrives once h = refl
fates-same (Server demand) rows rows' jobs arrives once h = ap (λ ds. map (λ time. Departs time) (lindley 0 arrives ds)) (one-each rows rows' demand jobs h)
fates-same (Delay demand) rows rows' jobs arrives once h = ap (λ ds. map (λ time. Departs time) (delayed arrives ds)) (one-each rows rows' demand jobs h)
fates-same (Loss places demand) rows rows' jobs arrives once h = ap (loss_fates places [] arrives) (one-each rows rows' demand jobs h)
fates-same (Tandem []) rows rows' jobs arrives once h = refl
fates-same (Tandem (stage ∷ stages)) rows rows' jobs arrives once h = ap (λ ds. map (λ time. Departs time) (tandem_departs (map (λ (s : Stage). s.places) (stage ∷ stages)) (map (λ _. []) (stage ∷ stages)) arrives ds)) (stages-each rows rows' (stage ∷ stages) jobs h)
fates-same (ForkJoin branches) rows rows' jobs arrives once h = ap (λ ds. map (λ time. Departs time) (forkjoin_departs arrives ds)) (branches-each rows rows' branches jobs h)
fates-same (Split route) rows rows' jobs arrives once h = refl
fates-same (Fork outputs) rows rows' jobs arrives once h = absurd cc
fates-same Join rows rows' jobs arrives once h = absurd cc
fates-same (Trunk servers demand) rows rows' jobs arrives once h = ap (trunk_fates servers [] arrives) (one-each rows rows' demand jobs h)

outs-same : (kind : Kind) (rows rows' : Rows) (jobs arrives : List ℕ) → sends_once kind ≡ true → Each (λ job. asks_same rows rows' kind job ≡ true) jobs → sequence_outs rows kind (came_by jobs arrives) ≡ sequence_outs rows' kind (came_by jobs arrives)
outs-same Source rows rows' jobs arrives once h = refl
outs-same (Server demand) rows rows' jobs arrives once h = refl
outs-same (Delay demand) rows rows' jobs arrives once h = refl
outs-same (Loss places demand) rows rows' jobs arrives once h = ap (λ ds. map out_of_fate (loss_fates places [] arrives ds)) (one-each rows rows' demand jobs h)
outs-same (Tandem stages) rows rows' jobs arrives once h = refl
outs-same (ForkJoin branches) rows rows' jobs arrives once h = refl
outs-same (Split route) rows rows' jobs arrives once h = routes-each rows rows' route 0 jobs h
outs-same (Fork outputs) rows rows' jobs arrives once h = absurd cc
outs-same Join rows rows' jobs arrives once h = absurd cc
outs-same (Trunk servers demand) rows rows' jobs arrives once h = ap (λ ds. map out_of_fate (trunk_fates servers [] arrives ds)) (one-each rows rows' demand jobs h)

pub whole : SequencesGoByFates → SequencesStay
whole law kind old new once a b c d =
    let s = all-same kind old.rows new.rows old.job old.arrive new.job new.arrive a b c d in
    let fates = fates-same kind old.rows new.rows old.job old.arrive once s.ask ∙ (λ i. sequence_fates new.rows kind (came_by (s.jobs_are i) (s.arrives_are i))) in
    let outs = outs-same kind old.rows new.rows old.job old.arrive once s.ask ∙ (λ i. sequence_outs new.rows kind (came_by (s.jobs_are i) (s.arrives_are i))) in
    let before = law old.rows kind (came_by old.job old.arrive) once in
    let after = law new.rows kind (came_by new.job new.arrive) once in
    let founds = before.founds ∙ ((λ i. founds_of (s.arrives_are i) (fates i)) ∙ sym after.founds) in
    record {
      jobs = s.jobs_are;
      arrives = s.arrives_are;
      fates = fates;
      outs = outs;
      visits = (λ i. record { job = s.jobs_are i; arrive = s.arrives_are i; found = founds i; fate = fates i });
      stream = λ out. before.stream out ∙ ((λ i. once_out (behaviour_of kind).order (came_by (s.jobs_are i) (s.arrives_are i)) (fates i) (outs i) out) ∙ sym (after.stream out));
    }
