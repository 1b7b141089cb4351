-- That a node which let out its flow stands in sequences.
use Rattle.mq_base.proofs.lemmas.Each.{Each-any}
use Rattle.mq_core.specs.Came.{came_of}
use Rattle.std.proofs.Common.{Bool, List, [], ap, arith, cond, eqb, false, inl, inr, length, map, refl, suc, sym, true, zero-add, ℕ, ◌<◌, ◌∙◌, ◌∷◌, ◌≡◌, ◌≤◌}
use Rattle.std.specs.List.{zip}
use Rattle.std.specs.Prelude.{slice_get}
use Rattle.mq_core.specs.SequenceLaws.{arrives_of, jobs_of, sends_once}
use Rattle.mq_core.specs.Sequences.{sequence_fates, sequence_outs, stream_in_order}
use Rattle.mq_core.specs.Fates.{fate_by}
use Rattle.mq_core.specs.KindTable.{behaviour_of}
use Rattle.mq_core.specs.Laws.{Rises, in_order_of, stream_of}
use Rattle.mq_core.specs.EmissionOrder.{EmissionOrder, left_by}
use Rattle.mq_core.specs.EmissionOrder.EmissionOrder.{ByPosition, Mixed, Overtaking}
use Rattle.mq_core.specs.Local.{Local}
use Rattle.mq_core.specs.Machine.{Emission, Station, Visit}
use Rattle.mq_core.specs.OnceOut.{founds_of, leaving_time, leaving_times, once_out}
use Rattle.mq_core.specs.Results.{stream_from}
use Rattle.mq_core.specs.Served.{flow_of, in_emission_order}
use Rattle.mq_core.specs.Streams.{by_first, picked, stream_by}
use Rattle.mq_core.specs.Tallies.{arrival_or, found_or}
use Rattle.mq_core.specs.declared.model.Kind.{Kind}
use Rattle.mq_core.specs.declared.model.Rows.{Rows}
use Rattle.mq_core.specs.declared.model.Stream.{Stream}
use Rattle.mq_core.proofs.Sequences.SequenceFlow.{flow-leaves}
use Rattle.mq_core.proofs.Counting.SequenceNumbers.{EachLeaves, LeavesAs, Numbered, founds-numbered, jobs-numbered, order-found}
use Rattle.mq_core.proofs.EachKind.Flows.{flow-numbered}
use Rattle.mq_core.proofs.EachKind.LawTable.{recurrence_of}
use Rattle.mq_core.proofs.lemmas.Orders.{filter-order, in_order_of-map}
use Rattle.mq_core.proofs.Events.Later.{leaving_later}

pub flow-fates : (rows : Rows) (ports : ℕ) (kind : Kind) → sends_once kind ≡ true → (visits : List Visit) → map (fate_by kind) (flow_of rows ports kind visits) ≡ sequence_fates rows kind (came_of ports visits)
flow-fates rows ports kind once = (recurrence_of rows ports kind once).fares

flow-outs : (rows : Rows) (ports : ℕ) (kind : Kind) → sends_once kind ≡ true → (visits : List Visit) → map (λ (m : Emission). m.out) (flow_of rows ports kind visits) ≡ sequence_outs rows kind (came_of ports visits)
flow-outs rows ports kind once = (recurrence_of rows ports kind once).goes

-- the emissions by an output are picked by their outputs
picked-stream : (out : ℕ) (f : Emission → ℕ) (ms : List Emission) → map f (stream_of out ms) ≡ picked out (map (λ (m : Emission). m.out) ms) (map f ms)
picked-stream out f [] = refl
picked-stream out f (m ∷ ms) = go (eqb m.out out) (picked-stream out f ms)
  where
    go : (b : Bool) → map f (stream_of out ms) ≡ picked out (map (λ (n : Emission). n.out) ms) (map f ms) → map f (cond b (m ∷ stream_of out ms) (stream_of out ms)) ≡ cond b (f m ∷ picked out (map (λ (n : Emission). n.out) ms) (map f ms)) (picked out (map (λ (n : Emission). n.out) ms) (map f ms))
    go true ih = ap (λ l. f m ∷ l) ih
    go false ih = ih

-- the times of the emissions are those at which the visits leave
leaves-times : (kind : Kind) (k : ℕ) (ms : List Emission) (xs : List Visit) → Numbered k ms xs → EachLeaves kind ms xs → map (λ (m : Emission). m.time) ms ≡ leaving_times (arrives_of xs) (map (fate_by kind) ms)
leaves-times kind k [] [] n h = refl
leaves-times kind k [] (x ∷ xs) n h = absurd n
leaves-times kind k (m ∷ ms) [] n h = absurd n
leaves-times kind k (m ∷ ms) (x ∷ xs) n h = λ i. own h.0 i ∷ leaves-times kind (suc k) ms xs n.2 h.1 i
  where
    own : LeavesAs kind m x → m.time ≡ leaving_time x.arrive (fate_by kind m)
    own (inl e) = ap (leaving_time x.arrive) (sym e)
    own (inr e) = e.1 ∙ ap (leaving_time x.arrive) (sym e.0)

-- what the visits of a station found that let out its flow stands in sequences
pub station-founds : (rows : Rows) (ports : ℕ) (kind : Kind) → sends_once kind ≡ true → (s : Station Local) → s.emitted ≡ in_emission_order kind (flow_of rows ports kind s.visits) → Rises (λ a b. a ≤ b) (arrives_of s.visits) →
    ((j : ℕ) → j < length s.visits → found_or 0 (slice_get s.visits j) ≡ leaving_later (arrival_or 0 (slice_get s.visits j)) s.emitted j) →
    map (λ (x : Visit). x.found) s.visits ≡ founds_of (arrives_of s.visits) (sequence_fates rows kind (came_of ports s.visits))
station-founds rows ports kind once s flow rise found =
    let numbered = flow-numbered rows ports kind once s.visits in
    let order = order-found kind 0 (flow_of rows ports kind s.visits) s.visits numbered in
    founds-numbered kind 0 0 (in_emission_order kind (flow_of rows ports kind s.visits)) (flow_of rows ports kind s.visits) [] s.visits numbered (λ q l. order q) (flow-leaves rows ports kind once s.visits) (Each-any _ (λ a. omega arith) (arrives_of s.visits), rise) (λ time l. refl)
    (λ j l. found j l ∙ (λ i. leaving_later (arrival_or 0 (slice_get s.visits j)) (flow i) (sym (zero-add j) i)))
    ∙ ap (founds_of (arrives_of s.visits)) (flow-fates rows ports kind once s.visits)

-- the jobs and the times of what leaves by an output
stream_in : ℕ → List Emission → Stream
stream_in out ms = record { job = map (λ (m : Emission). m.job) (stream_of out ms); time = map (λ (m : Emission). m.time) (stream_of out ms) }

-- the stream of the flow by position stands in sequences
flow-stream : (rows : Rows) (ports : ℕ) (kind : Kind) → sends_once kind ≡ true → (visits : List Visit) (out : ℕ) → stream_in out (flow_of rows ports kind visits) ≡ record { job = picked out (sequence_outs rows kind (came_of ports visits)) (jobs_of visits); time = picked out (sequence_outs rows kind (came_of ports visits)) (leaving_times (arrives_of visits) (sequence_fates rows kind (came_of ports visits))) }
unfolding stream_in
flow-stream rows ports kind once visits out =
    let outs = flow-outs rows ports kind once visits in
    let jobs : map (λ (m : Emission). m.job) (stream_of out (flow_of rows ports kind visits)) ≡ picked out (sequence_outs rows kind (came_of ports visits)) (jobs_of visits) =
    picked-stream out (λ (m : Emission). m.job) (flow_of rows ports kind visits)
    ∙ (λ i. picked out (outs i) (jobs-numbered 0 (flow_of rows ports kind visits) visits (flow-numbered rows ports kind once visits) i)) in
    let times : map (λ (m : Emission). m.time) (stream_of out (flow_of rows ports kind visits)) ≡ picked out (sequence_outs rows kind (came_of ports visits)) (leaving_times (arrives_of visits) (sequence_fates rows kind (came_of ports visits))) =
    picked-stream out (λ (m : Emission). m.time) (flow_of rows ports kind visits)
    ∙ (λ i. picked out (outs i) ((leaves-times kind 0 (flow_of rows ports kind visits) visits (flow-numbered rows ports kind once visits) (flow-leaves rows ports kind once visits) ∙ ap (leaving_times (arrives_of visits)) (flow-fates rows ports kind once visits)) i)) in
    λ i. record { job = jobs i; time = times i }

-- the time and the job of an emission
abbrev pair : Emission → ℕ × ℕ
pair m = (m.time, m.job)

zip-pairs : (ms : List Emission) → zip (map (λ (m : Emission). m.time) ms) (map (λ (m : Emission). m.job) ms) ≡ map {B = ℕ × ℕ} pair ms
zip-pairs [] = refl
zip-pairs (m ∷ ms) = ap (λ l. pair m ∷ l) (zip-pairs ms)

-- a part of the pairs is the same part of the emissions
pairs-part : (part : ℕ × ℕ → ℕ) (own : Emission → ℕ) → ((m : Emission) → part (pair m) ≡ own m) → (ms : List Emission) → map part (map {B = ℕ × ℕ} pair ms) ≡ map own ms
pairs-part part own h [] = refl
pairs-part part own h (m ∷ ms) = λ i. h m i ∷ pairs-part part own h ms i

-- where only outputs mix, each output leaves by position
abbrev StandsByOutput : EmissionOrder → List Emission → Type 0
StandsByOutput order ms = order ≡ Mixed → (out : ℕ) → in_order_of (λ (m : Emission). m.time) (stream_of out ms) ≡ stream_of out ms

-- emission order goes over to a stream
order-stream : (order : EmissionOrder) (ms : List Emission) (out : ℕ) → StandsByOutput order ms → stream_in out (left_by order ms) ≡ stream_by order (stream_in out ms)
unfolding stream_in
order-stream ByPosition ms out h = refl
order-stream Mixed ms out h =
    let stands = filter-order (λ (m : Emission). m.time) (λ (m : Emission). eqb m.out out) ms ∙ h refl out in
    λ i. record { job = map (λ (m : Emission). m.job) (stands i); time = map (λ (m : Emission). m.time) (stands i) }
order-stream Overtaking ms out h =
    let sorted = filter-order (λ (m : Emission). m.time) (λ (m : Emission). eqb m.out out) ms in
    let pairs : map {B = ℕ × ℕ} pair (in_order_of (λ (m : Emission). m.time) (stream_of out ms)) ≡ by_first (zip (map (λ (m : Emission). m.time) (stream_of out ms)) (map (λ (m : Emission). m.job) (stream_of out ms))) =
    in_order_of-map {Y = ℕ × ℕ} pair (λ (m : Emission). m.time) (λ (p : ℕ × ℕ). p.0) (λ m. refl) (stream_of out ms) ∙ ap by_first (sym (zip-pairs (stream_of out ms))) in
    let jobs = ap (map (λ (m : Emission). m.job)) sorted ∙ (sym (pairs-part (λ (p : ℕ × ℕ). p.1) (λ (m : Emission). m.job) (λ m. refl) (in_order_of (λ (m : Emission). m.time) (stream_of out ms))) ∙ ap (map (λ (p : ℕ × ℕ). p.1)) pairs) in
    let times = ap (map (λ (m : Emission). m.time)) sorted ∙ (sym (pairs-part (λ (p : ℕ × ℕ). p.0) (λ (m : Emission). m.time) (λ m. refl) (in_order_of (λ (m : Emission). m.time) (stream_of out ms))) ∙ ap (map (λ (p : ℕ × ℕ). p.0)) pairs) in
    λ i. record { job = jobs i; time = times i }

pub station-stream : (rows : Rows) (ports : ℕ) (kind : Kind) → sends_once kind ≡ true → (s : Station Local) (out : ℕ) → s.emitted ≡ in_emission_order kind (flow_of rows ports kind s.visits) → Rises (λ a b. a ≤ b) (arrives_of s.visits) → stream_from s out ≡ once_out (behaviour_of kind).order (came_of ports s.visits) (sequence_fates rows kind (came_of ports s.visits)) (sequence_outs rows kind (came_of ports s.visits)) out
unfolding stream_in
station-stream rows ports kind once s out flow rise =
    ap (stream_in out) flow ∙ (order-stream (behaviour_of kind).order (flow_of rows ports kind s.visits) out (λ mixed. (recurrence_of rows ports kind once).stands mixed s.visits rise) ∙ ap (stream_in_order kind) (flow-stream rows ports kind once s.visits out))
