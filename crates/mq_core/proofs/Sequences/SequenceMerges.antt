-- That the arrivals at a node are the streams that it reads, merged.
use Rattle.std.proofs.Common.{◌≡◌, ℕ, suc, Bool, true, false, cond, eqb, List, [], ◌∷◌, ◌++◌, map, length, Option, Some, None, sym, refl, ap, ◌∙◌}
use Rattle.std.proofs.lemmas.List.{map-append, length-map}
use Rattle.std.specs.Prelude.{filter, slice_get}
use Rattle.std.specs.List.{zip, flat_map}
use Rattle.mq_core.specs.SequenceLaws.{ArrivalsAreStreams, jobs_of, arrives_of, read_from}
use Rattle.mq_core.specs.Alone.{came}
use Rattle.mq_core.specs.Sequences.{rows_at}
use Rattle.mq_core.specs.Event.{Event, time_of, job_of}
use Rattle.mq_core.specs.Event.Event.{Arrive}
use Rattle.mq_core.specs.Laws.{is_arrival_at, stream_of, brought, in_order_of, port_of, read_by, by_time}
use Rattle.mq_core.specs.Local.{Local}
use Rattle.mq_core.specs.Machine.{Visit, Emission, State, opened}
use Rattle.mq_core.specs.Results.{stream_from}
use Rattle.mq_core.specs.Run.{run_length, starts, starts_from}
use Rattle.mq_core.specs.StandardTable.{standard, run_of}
use Rattle.mq_core.specs.OnTime.{standard-on_time}
use Rattle.mq_core.specs.Streams.{by_first, pairs_of}
use Rattle.mq_core.specs.Theorems.{arrivals_at, IsReadFor}
use Rattle.mq_core.specs.Wiring.{outputs_read, is_source}
use Rattle.mq_core.specs.declared.model.Input.{Input}
use Rattle.mq_core.specs.declared.model.Node.{Node}
use Rattle.mq_core.specs.declared.model.Plan.{Plan}
use Rattle.mq_core.specs.declared.model.Rows.{Rows}
use Rattle.mq_core.proofs.EachKind.AloneRuns.{visits-handled}
use Rattle.mq_core.proofs.EachKind.Ends.{nothing-pending}
use Rattle.mq_core.proofs.lemmas.Orders.{in_order_of-map}
use Rattle.mq_core.proofs.Networks.Whole.{arrivals-read}

-- the time, the port and the job of an event
abbrev event_item : Event → ℕ × ℕ × ℕ
event_item e = (time_of e, port_of e, job_of e)

-- the time and the job of an item, and of an event
abbrev pair_of : ℕ × ℕ × ℕ → ℕ × ℕ
pair_of p = (p.0, p.2)

abbrev event_pair : Event → ℕ × ℕ
event_pair e = (time_of e, job_of e)

zip-visits : (visits : List Visit) → zip (arrives_of visits) (jobs_of visits) ≡ map pair_of (came visits)
zip-visits [] = refl
zip-visits (x ∷ xs) = ap (λ l. (x.arrive, x.job) ∷ l) (zip-visits xs)

item-pairs : (es : List Event) → map pair_of (map event_item es) ≡ map event_pair es
item-pairs [] = refl
item-pairs (e ∷ es) = ap (λ l. event_pair e ∷ l) (item-pairs es)

-- the rows that start at a node are its rows
starts-rows : (v job : ℕ) (sources times : List ℕ) → map event_pair (filter (is_arrival_at v) (starts_from job sources times)) ≡ rows_at v job sources times
starts-rows v job [] times = refl
starts-rows v job (s ∷ ss) [] = refl
starts-rows v job (s ∷ ss) (t ∷ ts) = go (eqb s v) (starts-rows v (suc job) ss ts)
  where
    go : (b : Bool) → map event_pair (filter (is_arrival_at v) (starts_from (suc job) ss ts)) ≡ rows_at v (suc job) ss ts → map event_pair (cond b (Arrive t s 0 job ∷ filter (is_arrival_at v) (starts_from (suc job) ss ts)) (filter (is_arrival_at v) (starts_from (suc job) ss ts))) ≡ cond b ((t, job) ∷ rows_at v (suc job) ss ts) (rows_at v (suc job) ss ts)
    go true ih = ap (λ l. (t, job) ∷ l) ih
    go false ih = ih

-- what a port brings is the stream that it reads
brought-pairs : (v port : ℕ) (stream : List Emission) → map event_pair (brought v port stream) ≡ zip (map (λ (m : Emission). m.time) stream) (map (λ (m : Emission). m.job) stream)
brought-pairs v port [] = refl
brought-pairs v port (m ∷ ms) = ap (λ l. (m.time, m.job) ∷ l) (brought-pairs v port ms)

read-pairs : (end : State Local) (v port : ℕ) (is : List Input) → map event_pair (read_by end v port (map (λ (i : Input). (i.node, i.out)) is)) ≡ flat_map (λ (i : Input). pairs_of (stream_from (end.stations i.node) i.out)) is
read-pairs end v port [] = refl
read-pairs end v port (i ∷ is) =
    let stream = stream_of i.out (end.stations i.node).emitted in
    let rest = read_by end v (suc port) (map (λ (j : Input). (j.node, j.out)) is) in
    map-append event_pair (brought v port stream) rest
    ∙ (λ k. brought-pairs v port stream k ++ read-pairs end v (suc port) is k)

-- what a port brings, with that port
brought-items : (v port : ℕ) (stream : List Emission) → map event_item (brought v port stream) ≡ map {B = ℕ × ℕ × ℕ} (λ (p : ℕ × ℕ). (p.0, port, p.1)) (zip (map (λ (m : Emission). m.time) stream) (map (λ (m : Emission). m.job) stream))
brought-items v port [] = refl
brought-items v port (m ∷ ms) = ap (λ l. (m.time, port, m.job) ∷ l) (brought-items v port ms)

read-items : (end : State Local) (v port : ℕ) (is : List Input) → map event_item (read_by end v port (map (λ (i : Input). (i.node, i.out)) is)) ≡ read_from end port is
read-items end v port [] = refl
read-items end v port (i ∷ is) =
    let stream = stream_of i.out (end.stations i.node).emitted in
    let rest = read_by end v (suc port) (map (λ (j : Input). (j.node, j.out)) is) in
    map-append event_item (brought v port stream) rest
    ∙ (λ k. brought-items v port stream k ++ read-items end v (suc port) is k)

-- the visits of a node, by time, port and job, are its arrivals
visits-read : (plan : Plan) (rows : Rows) → IsReadFor plan.net rows → (v : ℕ) → came ((run_of plan rows).stations v).visits ≡ map event_item (arrivals_at plan rows (run_of plan rows) v)
visits-read plan rows read v =
    let t = standard plan rows in
    let count = run_length plan.net.nodes rows in
    visits-handled t v count (opened t (starts rows))
    ∙ ap (map event_item) (arrivals-read plan rows t (standard-on_time plan rows) refl refl count v read (nothing-pending plan rows read))

-- none comes where no node is
pub visits-nowhere : (plan : Plan) (rows : Rows) → IsReadFor plan.net rows → (v : ℕ) → slice_get plan.net.nodes v ≡ None → length ((run_of plan rows).stations v).visits ≡ 0
visits-nowhere plan rows read v e =
    sym (length-map ((run_of plan rows).stations v).visits (λ (x : Visit). (x.arrive, x.port, x.job)))
    ∙ ap length (visits-read plan rows read v ∙ ap (λ o. map event_item (by_time (cond (is_source o) (filter (is_arrival_at v) (starts rows)) (read_by (run_of plan rows) v 0 (outputs_read o))))) e)

pub arrivals-are-streams : ArrivalsAreStreams
arrivals-are-streams plan rows read v node e =
    record {
      source = λ s. start ∙ (ap (λ o. map event_pair (by_time (arrivals o))) e ∙ (ap (λ b. map event_pair (by_time (cond b own (others (Some node))))) s ∙ (sorted own ∙ ap by_first (starts-rows v 0 rows.source rows.time))));
      ports = λ s.
          visits-read plan rows read v
          ∙ (ap (λ o. map event_item (by_time (arrivals o))) e ∙ (ap (λ b. map event_item (by_time (cond b own (others (Some node))))) s ∙ (in_order_of-map event_item time_of (λ (p : ℕ × ℕ × ℕ). p.0) (λ x. refl) (others (Some node)) ∙ ap (in_order_of (λ (p : ℕ × ℕ × ℕ). p.0)) (read-items (run_of plan rows) v 0 node.inputs))));
      other = λ s. start ∙ (ap (λ o. map event_pair (by_time (arrivals o))) e ∙ (ap (λ b. map event_pair (by_time (cond b own (others (Some node))))) s ∙ (sorted (others (Some node)) ∙ ap by_first (read-pairs (run_of plan rows) v 0 node.inputs))));
    }
  where
    own : List Event
    own = filter (is_arrival_at v) (starts rows)

    others : Option Node → List Event
    others o = read_by (run_of plan rows) v 0 (outputs_read o)

    arrivals : Option Node → List Event
    arrivals o = cond (is_source o) own (others o)

    start : zip (arrives_of ((run_of plan rows).stations v).visits) (jobs_of ((run_of plan rows).stations v).visits) ≡ map event_pair (by_time (arrivals (slice_get plan.net.nodes v)))
    start = zip-visits ((run_of plan rows).stations v).visits ∙ (ap (map pair_of) (visits-read plan rows read v) ∙ item-pairs (arrivals_at plan rows (run_of plan rows) v))

    sorted : (es : List Event) → map event_pair (by_time es) ≡ by_first (map event_pair es)
    sorted es = in_order_of-map event_pair time_of (λ (p : ℕ × ℕ). p.0) (λ x. refl) es
