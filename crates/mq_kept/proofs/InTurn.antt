-- Nodes whose jobs leave in the order in which they came, by one output, as runs have them.
use Rattle.std.proofs.Common.{◌≡◌, ℕ, ◌+◌, ◌++◌, ◌∷◌, ◌^◌, true, List, [], length, map, take, Some, None, refl, sym, ap, ◌∙◌, subst, arith}
use Rattle.std.specs.Prelude.{IsTrue, nat_le, nat_lt, slice_get}
use Rattle.std.specs.List.{list_all}
use Rattle.std.proofs.lemmas.Bool.{and_parts}
use Rattle.std.proofs.lemmas.Bool.Decides.{nat_tests}
use Rattle.std.proofs.lemmas.List.{length-append, length-map, length-take-le, map-append, take-map}
use Rattle.mq_base.proofs.lemmas.Lists.{some_inj}
use Rattle.mq_core.specs.Came.{Came, came_in, came_of}
use Rattle.mq_core.specs.Handling.{demand_of_job}
use Rattle.mq_core.specs.Kinds.ForkJoin.{branch_demands}
use Rattle.mq_core.specs.Kinds.Split.{is_sound_route, outputs_by}
use Rattle.mq_core.specs.Kinds.Tandem.{tandem_times}
use Rattle.mq_core.specs.OnceOut.{founds_of}
use Rattle.mq_core.specs.Ranges.{is_within, rises}
use Rattle.mq_core.specs.Recurrences.{delayed, forkjoin_departs, lindley}
use Rattle.mq_core.specs.Results.{first_of, stream_from}
use Rattle.mq_core.specs.SequenceLaws.{FatesAreInTime, NodesAreSequences, OrdersKeepItems, SequencesGoByFates, arrives_of, jobs_of, sends_once}
use Rattle.mq_core.specs.Sequences.{sequence_fates, sequence_late_from, sequence_outs, sequence_visits, stream_in_order, streams_below, time_of_fate}
use Rattle.mq_core.specs.Sound.{is_sound_kind, outputs_in}
use Rattle.mq_core.specs.StandardTable.{run_of}
use Rattle.mq_core.specs.Theorems.{IsReadFor}
use Rattle.mq_core.specs.declared.model.Fate.TheVariants.{Departs}
use Rattle.mq_core.specs.declared.model.Kind.{Kind}
use Rattle.mq_core.specs.declared.model.Kind.TheVariants.{Delay, Fork, ForkJoin, Join, Loss, Server, Source, Split, Tandem, Trunk}
use Rattle.mq_core.specs.declared.model.Node.{Node}
use Rattle.mq_core.specs.declared.model.Plan.{Plan}
use Rattle.mq_core.specs.declared.model.Route.{Route}
use Rattle.mq_core.specs.declared.model.Route.TheVariants.{Cut, Modulo, Turn}
use Rattle.mq_core.specs.declared.model.Rows.{Rows}
use Rattle.mq_core.specs.declared.model.Stream.{Stream}
use Rattle.mq_core.specs.declared.model.Visits.{Visits}
use Rattle.mq_engine.specs.CoreLaws.{CoreLaws}
use Rattle.mq_engine.specs.declared.fault.RunFault.{RunFault}
use Rattle.mq_engine.specs.declared.fault.RunFault.TheVariants.{Memory, Over, Past}
use Rattle.mq_exits.proofs.Known.{known}
use Rattle.mq_exits.proofs.Leavings.{kept-streams, late-by, seen-result}
use Rattle.mq_exits.specs.NodeLaws.{NodeLaws}
use Rattle.mq_exits.specs.Results.{IsKnown, IsWorkedOut}
use Rattle.mq_exits.specs.declared.working.Ending.TheVariants.{OnTime, TooLate}
use Rattle.mq_stations.proofs.lemmas.Leaves.{departs-left, departs-one, once-leaves, served-rises, source-served}
use Rattle.mq_stations.specs.Late.{late_told}
use Rattle.mq_stations.specs.Leaving.{AreDepartures, AreServed, KeepsOrder}
use Rattle.mq_kept.specs.NodeRuns.{IsFaultAt}
use Rattle.mq_kept.specs.TailSteps.{AreInTurn, IsNextTail, IsRefused}
use Rattle.mq_kept.specs.Tails.{AreServedAt, IsTailFor, IsTailPut, coming_behind, departures_in}
use Rattle.mq_kept.specs.declared.former.NodeLists.{NodeLists}
use Rattle.mq_kept.proofs.LastVisits.{times-back}

-- Kinds. A sound split has more outputs than one.
route-many : (columns : ℕ) (route : Route) → is_sound_route columns route ≡ true → outputs_by route ≡ 1 → ⊥
route-many columns (Modulo outputs column) s e =
    let least = (and_parts (nat_le 2 outputs) (nat_le outputs 8) (and_parts (is_within 2 8 outputs) (nat_lt column columns) s).0).0 in
    let one : outputs ≡ 1 = e in
    grind (arith, nat_tests)
route-many columns (Turn outputs) s e =
    let least = (and_parts (nat_le 2 outputs) (nat_le outputs 8) s).0 in
    let one : outputs ≡ 1 = e in
    grind (arith, nat_tests)
route-many columns (Cut column thresholds) s e =
    let a = and_parts _ (list_all (λ threshold. nat_le threshold (2 ^ 36)) thresholds) s in
    let b = and_parts _ (rises thresholds) a.0 in
    let least = (and_parts (nat_le 1 (length thresholds)) (nat_le (length thresholds) 7) (and_parts (nat_lt column columns) (is_within 1 7 (length thresholds)) b.0).1).0 in
    let one : length thresholds + 1 ≡ 1 = e in
    grind (arith, nat_tests)

-- from a node that lets each visit out once, by its only output, all depart
all-depart : (columns : ℕ) (kind : Kind) → IsTrue (is_sound_kind columns kind) → sends_once kind ≡ true → outputs_in kind ≡ 1 → (rows : Rows) (came : Came) →
    (sequence_outs rows kind came ≡ map (λ _. 0) came.job) × ((times : List ℕ) × (sequence_fates rows kind came ≡ map (λ time. Departs time) times))
all-depart columns Source s once one rows came = (refl, (came.arrive, refl))
all-depart columns (Server demand) s once one rows came = (refl, (lindley 0 came.arrive (map (demand_of_job rows demand) came.job), refl))
all-depart columns (Delay demand) s once one rows came = (refl, (delayed came.arrive (map (demand_of_job rows demand) came.job), refl))
all-depart columns (Loss places demand) s once one rows came = absurd (omega arith)
all-depart columns (Tandem stages) s once one rows came = (refl, (tandem_times rows stages came.job came.arrive, refl))
all-depart columns (ForkJoin branches) s once one rows came = (refl, (forkjoin_departs came.arrive (branch_demands rows branches came.job), refl))
all-depart columns (Split route) s once one rows came = absurd (route-many columns route s one)
all-depart columns (Fork outputs) s once one rows came = absurd cc
all-depart columns Join s once one rows came = absurd cc
all-depart columns (Trunk servers demand) s once one rows came = absurd (omega arith)

-- The laws of runs that the result of a node rests on.
pub node-laws : CoreLaws → OrdersKeepItems → SequencesGoByFates → NodeLaws
node-laws laws keeps go = record { keeps = keeps; sequences = laws.sequences; blind = laws.blind; go = go; streams = laws.streams; have = laws.have; make = laws.make }

-- What is kept of such a node, as a run has it.
module _ (laws : NodeLaws) (inTime : FatesAreInTime) (plan : Plan) (rows : Rows) (read : IsReadFor plan.net rows) (v : ℕ) (node : Node) (there : slice_get plan.net.nodes v ≡ Some node) (columns : ℕ) (sound : IsTrue (is_sound_kind columns node.kind)) (once : sends_once node.kind ≡ true)
    (one : outputs_in node.kind ≡ 1) (keeps : KeepsOrder node.kind) (lists : NodeLists) (has : IsKnown plan rows v node (OnTime lists.visits lists.streams)) where
  abbrev came : Stream
  came = record { job = jobs_of ((run_of plan rows).stations v).visits; time = arrives_of ((run_of plan rows).stations v).visits }

  even : length came.job ≡ length came.time
  even = length-map ((run_of plan rows).stations v).visits _ ∙ sym (length-map ((run_of plan rows).stations v).visits _)

  depart : (sequence_outs rows node.kind (came_in came) ≡ map (λ _. 0) came.job) × ((times : List ℕ) × (sequence_fates rows node.kind (came_in came) ≡ map (λ time. Departs time) times))
  depart = all-depart columns node.kind sound once one rows (came_in came)

  abbrev times : List ℕ
  times = depart.1.0

  visits-are : lists.visits ≡ sequence_visits rows node.kind (came_in came)
  visits-are = has.0 ∙ ((laws.sequences plan rows read v node there).visits ∙ (laws.blind rows node.kind (came_of (length node.inputs) ((run_of plan rows).stations v).visits) (once-leaves node.kind once)).visits)

  fates-are : lists.visits.fate ≡ map (λ time. Departs time) times
  fates-are = (λ k. (visits-are k).fate) ∙ depart.1.1

  times-are : departures_in lists ≡ times
  times-are = ap (map time_of_fate) fates-are ∙ times-back times

  many : length times ≡ length came.job
  many = sym (length-map times (λ time. Departs time)) ∙ (ap length (sym depart.1.1) ∙ ((inTime rows node.kind (came_in came) (once-leaves node.kind once) even).even ∙ sym even))

  stream-is : stream_from ((run_of plan rows).stations v) 0 ≡ record { job = came.job; time = times }
  stream-is =
      let are : AreDepartures rows node.kind came times = record { once = once; one = one; outs = depart.0; fates = depart.1.1 } in
      (laws.sequences plan rows read v node there).stream 0
      ∙ ((laws.blind rows node.kind (came_of (length node.inputs) ((run_of plan rows).stations v).visits) (once-leaves node.kind once)).stream 0
      ∙ ((laws.go rows node.kind (came_in came) once).stream 0
      ∙ (ap (stream_in_order node.kind) (sym (departs-one inTime rows node.kind came times even are)) ∙ keeps (record { job = came.job; time = times }))))

  pub kept-turn : AreInTurn lists (departures_in lists)
  kept-turn =
      record {
        arrives = (λ k. length (visits-are k).arrive) ∙ (sym even ∙ (λ k. length (sym visits-are k).job));
        even = ap length times-are ∙ (many ∙ (λ k. length (sym visits-are k).job));
        fates = fates-are ∙ ap (map (λ time. Departs time)) (sym times-are);
        founds = (λ k. (visits-are k).found) ∙ ((laws.go rows node.kind (came_in came) once).founds ∙ (λ k. founds_of (sym visits-are k).arrive (sym visits-are k).fate));
        streams = has.1 ∙ (ap (streams_below (run_of plan rows) v) one ∙ ((λ k. stream-is k ∷ []) ∙ (λ k. record { job = (sym visits-are k).job; time = sym times-are k } ∷ [])));
      }

-- What is kept of a source, whose jobs depart as they come. So do others behind its first ones.
pub source-behind : NodesAreSequences → (plan : Plan) (rows old : Rows) (v : ℕ) (node : Node) (lists : NodeLists) (from : ℕ) (jobs times : List ℕ) → slice_get plan.net.nodes v ≡ Some node → node.kind ≡ Source → IsReadFor plan.net old → IsWorkedOut plan old (record { number = v; ending = OnTime lists.visits lists.streams }) →
    AreServedAt plan rows v (coming_behind from lists.visits jobs times) (take from (departures_in lists) ++ times)
source-behind sequences plan rows old v node lists from jobs times there source read was other found =
    let seen = ((run_of plan old).stations v).visits in
    let has : IsKnown plan old v node (OnTime lists.visits lists.streams) = subst (λ (n : Node). IsKnown plan old v n (OnTime lists.visits lists.streams)) (some_inj _ _ (sym was.1 ∙ there)) was.2 in
    let visits : lists.visits ≡ sequence_visits old node.kind (came_of (length node.inputs) seen) = has.0 ∙ (sequences plan old read v node there).visits in
    let fates : lists.visits.fate ≡ map (λ time. Departs time) (arrives_of seen) = (λ k. (visits k).fate) ∙ ap (λ kind. sequence_fates old kind (came_of (length node.inputs) seen)) source in
    let departs : departures_in lists ≡ lists.visits.arrive = ap (map time_of_fate) fates ∙ (times-back (arrives_of seen) ∙ (λ k. (sym visits k).arrive)) in
    subst (λ (kind : Kind). AreServed rows kind (coming_behind from lists.visits jobs times) (take from (departures_in lists) ++ times)) (sym source ∙ (λ k. (some_inj _ _ (sym there ∙ found) k).kind))
    (source-served rows (coming_behind from lists.visits jobs times) (take from (departures_in lists) ++ times) (ap (λ l. take from l ++ times) departs))

-- The visits that come behind. In a run over the rows for which they are meant, what was kept in a run over others is in turn.
module _ (laws : NodeLaws) (inTime : FatesAreInTime) (plan : Plan) (rows : Rows) (v : ℕ) (lists : NodeLists) (from : ℕ) (jobs times departs : List ℕ) (tail : IsTailFor plan rows v lists from jobs times departs) where
  pub old-turn : (old : Rows) → IsReadFor plan.net old → IsWorkedOut plan old (record { number = v; ending = OnTime lists.visits lists.streams }) → AreInTurn lists (departures_in lists)
  old-turn old read was =
      let node = tail.loaded.node in
      let served = tail.served node tail.loaded.there in
      kept-turn laws inTime plan old read v node tail.loaded.there tail.loaded.load.columns tail.loaded.load.sound tail.loaded.once served.0.one served.1 lists
      (subst (λ (n : Node). IsKnown plan old v n (OnTime lists.visits lists.streams)) (some_inj _ _ (sym was.1 ∙ tail.loaded.there)) was.2)

  pub next-tail : AreInTurn lists (departures_in lists) → IsNextTail from jobs times departs lists
  next-tail turn =
      let node = tail.loaded.node in
      let load = tail.loaded.load in
      let arrives = turn.arrives in
      let within = tail.within in
      let times_even = tail.times_even in
      let long = length-append (take from lists.visits.arrive) times in
      let front = length-take-le from lists.visits.arrive (omega arith) in
      let few = load.few in
      record {
        times_even = tail.times_even;
        departs_even = tail.departs_even;
        within = tail.within;
        longer = tail.longer;
        few = omega arith;
        arrives = load.ordered.ordered.rising;
        departures = served-rises laws.go inTime rows node.kind (coming_behind from lists.visits jobs times) (take from (departures_in lists) ++ departs) load (tail.served node tail.loaded.there);
      }

  -- what they give, where none departs after the bound
  pub tail-known : (lists' : NodeLists) → IsTailPut from jobs times departs lists lists' → AreInTurn lists (departures_in lists) → lists'.visits.found ≡ founds_of lists'.visits.arrive lists'.visits.fate →
      first_of (sequence_late_from plan.net.bound v 0 (map (λ time. Departs time) (take from (departures_in lists) ++ departs))) ≡ None → IsWorkedOut plan rows (record { number = v; ending = OnTime lists'.visits lists'.streams })
  tail-known new put turn found early =
      let l = tail.loaded in
      let node = l.node in
      let arrivals = coming_behind from lists.visits jobs times in
      let departures = take from (departures_in lists) ++ departs in
      let streams : List Stream = record { job = arrivals.job; time = departures } ∷ [] in
      let served = tail.served node l.there in
      let fates : new.visits.fate ≡ map (λ time. Departs time) departures =
      put.fate ∙ (ap (λ l. take from l ++ map (λ time. Departs time) departs) turn.fates
      ∙ (ap (λ l. l ++ map (λ time. Departs time) departs) (take-map (λ time. Departs time) from (departures_in lists)) ∙ sym (map-append (λ time. Departs time) (take from (departures_in lists)) departs))) in
      let founds : new.visits.found ≡ founds_of arrivals.time (map (λ time. Departs time) departures) = found ∙ (λ k. founds_of (put.arrive k) (fates k)) in
      let late = late-by plan.net.bound v (sequence_fates rows node.kind (came_in arrivals)) (map (λ time. Departs time) departures) None served.0.fates early in
      let left = departs-left inTime rows node.kind arrivals departures streams l.load.ordered.ordered.even served.0 refl in
      let result = seen-result laws.go plan.net rows v node.kind arrivals (map (λ time. Departs time) departures) new.visits.found streams l.once (record { fates_are = sym served.0.fates; streams_are = kept-streams laws.go rows node.kind arrivals streams l.once served.1 left; none = late }) founds in
      let whole : IsWorkedOut plan rows (record { number = v; ending = OnTime (record { job = arrivals.job; arrive = arrivals.time; found = new.visits.found; fate = map (λ time. Departs time) departures }) streams }) =
      (node, l.there, known laws plan rows v node arrivals (OnTime (record { job = arrivals.job; arrive = arrivals.time; found = new.visits.found; fate = map (λ time. Departs time) departures }) streams) tail.read l.once l.came l.load l.there (result, late)) in
      subst (λ (s : Visits × List Stream). IsWorkedOut plan rows (record { number = v; ending = OnTime s.0 s.1 }))
      (λ k. (record { job = sym put.job k; arrive = sym put.arrive k; found = new.visits.found; fate = sym fates k }, sym put.streams k)) whole

  -- why they are refused
  pub tail-cause : (fault : RunFault) → IsRefused plan.net.bound v (take from (departures_in lists) ++ departs) fault → IsFaultAt plan rows v fault
  tail-cause (Over fault) h = absurd h
  tail-cause Memory h = tt
  tail-cause (Past fault) h =
      let l = tail.loaded in
      let arrivals = coming_behind from lists.visits jobs times in
      let served = tail.served l.node l.there in
      let late = late-by plan.net.bound v (sequence_fates rows l.node.kind (came_in arrivals)) (map (λ time. Departs time) (take from (departures_in lists) ++ departs)) (Some (late_told fault)) served.0.fates h in
      (l.node, l.there, known laws plan rows v l.node arrivals (TooLate fault) tail.read l.once l.came l.load l.there late)
