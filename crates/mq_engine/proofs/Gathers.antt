-- Forks and joins: what is gathered, port after port, and that what is made of it is what the run has.
use Rattle.std.proofs.Common.{◌≡◌, ℕ, zero, suc, ◌+◌, ◌<◌, ◌≤◌, Bool, true, false, cond, List, [], ◌∷◌, ◌++◌, length, get_or, map, take, Option, Some, None, sym, refl, ap, ◌∙◌, subst, arith, append_assoc, length-append}
use Rattle.std.specs.Prelude.{nat_lt, slice_get}
use Rattle.std.specs.List.{AllByRecursion as Each}
use Rattle.std.specs.Option.{option_map}
use Rattle.std.proofs.lemmas.List.{append-nil, length-map}
use Rattle.std.proofs.lemmas.Option.{slice_get_within}
use Rattle.mq_base.proofs.lemmas.Lists.{some_inj, take-all}
use Rattle.mq_exits.proofs.Early.{EarlyTimes}
use Rattle.mq_core.proofs.lemmas.Orders.{in_order_of-length}
use Rattle.mq_core.proofs.lemmas.Rising.{in_order_of-append_left}
use Rattle.mq_core.specs.Alone.{came}
use Rattle.mq_core.specs.Behaviour.{Behaviour}
use Rattle.mq_core.specs.Came.{Came, came_of}
use Rattle.mq_core.specs.KindTable.{behaviour_of}
use Rattle.mq_core.specs.Kinds.Fork.{copies_by}
use Rattle.mq_core.specs.Kinds.Join.{is_whole_at, matches_of, wholes_from}
use Rattle.mq_core.specs.Laws.{in_order_of}
use Rattle.mq_core.specs.Local.{Local}
use Rattle.mq_core.specs.Machine.{Station, Visit}
use Rattle.mq_core.specs.Results.{Late as LateVisit, fates_by, first_of, stream_from, visits_of}
use Rattle.mq_core.specs.Results.Refusal.{Past}
use Rattle.mq_core.specs.SequenceLaws.{arrives_of, jobs_of, sends_once}
use Rattle.mq_core.specs.Sequences.{IsStream, sequence_late_from, sequence_refusal, sequence_stream, sequence_visits, streams_below}
use Rattle.mq_core.specs.Sound.{outputs_in}
use Rattle.mq_core.specs.StandardTable.{run_of}
use Rattle.mq_core.specs.Streams.{pairs_of}
use Rattle.mq_core.specs.Theorems.{IsReadFor}
use Rattle.mq_core.specs.Wiring.{is_source_kind}
use Rattle.mq_core.specs.declared.model.Input.{Input}
use Rattle.mq_core.specs.declared.model.Kind.{Kind}
use Rattle.mq_core.specs.declared.model.Kind.TheVariants.{Source, Server, Delay, Loss, Tandem, ForkJoin, Split, Fork, Join, Trunk}
use Rattle.mq_core.specs.declared.model.Node.{Node}
use Rattle.mq_core.specs.declared.model.Plan.{Plan}
use Rattle.mq_core.specs.declared.model.Rows.{Rows}
use Rattle.mq_core.specs.declared.model.Stream.{Stream}
use Rattle.mq_core.specs.declared.model.Visits.{Visits}
use Rattle.mq_join.specs.Gathers.{AddsPort, came_to}
use Rattle.mq_join.specs.declared.gathered.Gathered.{Gathered}
use Rattle.mq_stations.specs.Late.{late_told}
use Rattle.mq_engine.specs.Apart.{AreGathered, AreSequences, CanGather, IsEndingOf, IsGatheredAt}
use Rattle.mq_engine.specs.CoreLaws.{CoreLaws}
use Rattle.mq_arrivals.specs.Arrivals.{pairs_read}
use Rattle.mq_engine.specs.Progress.{AreEarly, read_by}
use Rattle.mq_exits.specs.Results.{IsKnown}
use Rattle.mq_exits.specs.declared.working.Ending.{Ending}
use Rattle.mq_exits.specs.declared.working.Ending.TheVariants.{OnTime, TooMany, TooLate}
use Rattle.mq_merge.proofs.Merging.{length-pairs}
use Rattle.mq_engine.proofs.Early.{stream-early}
use Rattle.mq_engine.proofs.Waves.{arriving-early}
use Rattle.mq_exits.proofs.Known.{left-ordered, refusal-few}

-- an item, by this port
abbrev by : ℕ → List (ℕ × ℕ) → List (ℕ × ℕ × ℕ)
by port pairs = map {B = ℕ × ℕ × ℕ} (λ (q : ℕ × ℕ). (q.0, port, q.1)) pairs

-- what one port more brings
reads-more : (outputs : List (List Stream)) (first : ℕ) (inputs : List Input) (p : ℕ) (input : Input) → slice_get inputs p ≡ Some input → read_by outputs first (take (suc p) inputs) ≡ read_by outputs first (take p inputs) ++ by (first + p) (pairs_read outputs input)
reads-more outputs first [] p input e = absurd cc
reads-more outputs first (i ∷ is) zero input e =
    let same : first ≡ first + 0 = omega arith in
    append-nil (by first (pairs_read outputs i)) ∙ (λ k. by (same k) (pairs_read outputs (some_inj i input e k)))
reads-more outputs first (i ∷ is) (suc p) input e =
    let next : suc first + p ≡ first + suc p = omega arith in
    ap (λ l. by first (pairs_read outputs i) ++ l) (reads-more outputs (suc first) is p input e ∙ ap (λ n. read_by outputs (suc first) (take p is) ++ by n (pairs_read outputs input)) next)
    ∙ sym (append_assoc (by first (pairs_read outputs i)) (read_by outputs (suc first) (take p is)) (by (first + suc p) (pairs_read outputs input)))

-- what the first ports bring is no more than what all do
reads-less : (outputs : List (List Stream)) (first : ℕ) (inputs : List Input) (p : ℕ) → length (read_by outputs first (take p inputs)) ≤ length (read_by outputs first inputs)
reads-less outputs first inputs zero = omega arith
reads-less outputs first [] (suc p) = omega arith
reads-less outputs first (i ∷ is) (suc p) =
    let a = length-append (by first (pairs_read outputs i)) (read_by outputs (suc first) (take p is)) in
    let b = length-append (by first (pairs_read outputs i)) (read_by outputs (suc first) is) in
    let rest = reads-less outputs (suc first) is p in
    omega arith

-- a stream that a port reads
module _ (outputs : List (List Stream)) (inputs : List Input) (port : ℕ) (input : Input) (stream : Stream) (there : slice_get inputs port ≡ Some input) (is : IsStream stream) (reads : pairs_of stream ≡ pairs_read outputs input) where
  brings : read_by outputs 0 (take (port + 1) inputs) ≡ read_by outputs 0 (take port inputs) ++ by port (pairs_of stream)
  brings =
      let next : port + 1 ≡ suc port = omega arith in
      let same : 0 + port ≡ port = omega arith in
      ap (λ n. read_by outputs 0 (take n inputs)) next
      ∙ (reads-more outputs 0 inputs port input there ∙ (λ k. read_by outputs 0 (take port inputs) ++ by (same k) (sym reads k)))

  grows : length (read_by outputs 0 (take (port + 1) inputs)) ≡ length (read_by outputs 0 (take port inputs)) + length stream.time
  grows =
      let a = ap length brings in
      let b = length-append (read_by outputs 0 (take port inputs)) (by port (pairs_of stream)) in
      let c : length (by port (pairs_of stream)) ≡ length (pairs_of stream) = length-map (pairs_of stream) _ in
      let d = length-pairs stream is.even in
      omega arith

  -- it is gathered with those before it
  pub gathered-more : (old new : Gathered) → AddsPort old new stream → AreGathered outputs inputs port old → AreGathered outputs inputs (port + 1) new
  gathered-more old new adds was =
      record {
        ports = adds.ports ∙ ap (λ n. n + 1) was.ports;
        many = let a = adds.many in let b = was.many in let c = grows in omega arith;
        arrivals =
            adds.arrivals
            ∙ ((λ k. in_order_of (λ (p : ℕ × ℕ × ℕ). p.0) (was.arrivals k ++ by (was.ports k) (pairs_of stream)))
            ∙ (in_order_of-append_left (λ (p : ℕ × ℕ × ℕ). p.0) (read_by outputs 0 (take port inputs)) (by port (pairs_of stream)) ∙ ap (in_order_of (λ (p : ℕ × ℕ × ℕ). p.0)) (sym brings)));
      }

-- Kinds that are no stations.
pub apart-other : (kind : Kind) → sends_once kind ≡ false → is_source_kind kind ≡ false
apart-other Source h = absurd cc
apart-other (Server demand) h = absurd cc
apart-other (Delay demand) h = absurd cc
apart-other (Loss places demand) h = absurd cc
apart-other (Tandem stages) h = absurd cc
apart-other (ForkJoin branches) h = absurd cc
apart-other (Split route) h = absurd cc
apart-other (Fork outputs) h = refl
apart-other Join h = refl
apart-other (Trunk servers demand) h = absurd cc

-- what they let out is early where the arrivals are
wholes-early : (position : ℕ) (matches : List (Option ℕ)) (times : List ℕ) → EarlyTimes times → EarlyTimes (wholes_from position matches times)
wholes-early position [] times h = tt
wholes-early position (one ∷ more) [] h = tt
wholes-early position (one ∷ more) (time ∷ times) h = go (is_whole_at position one) (wholes-early (suc position) more times h.1)
  where
    go : (b : Bool) → EarlyTimes (wholes_from (suc position) more times) → EarlyTimes (cond b (time ∷ wholes_from (suc position) more times) (wholes_from (suc position) more times))
    go true k = (h.0, k)
    go false k = k

copies-early : (b : Bool) (came : Came) → EarlyTimes came.arrive → EarlyTimes (copies_by b came).time
copies-early true came h = h
copies-early false came h = tt

apart-early : (rows : Rows) (kind : Kind) (came : Came) (out : ℕ) → sends_once kind ≡ false → EarlyTimes came.arrive → EarlyTimes (sequence_stream rows kind came out).time
apart-early rows Source came out a h = absurd cc
apart-early rows (Server demand) came out a h = absurd cc
apart-early rows (Delay demand) came out a h = absurd cc
apart-early rows (Loss places demand) came out a h = absurd cc
apart-early rows (Tandem stages) came out a h = absurd cc
apart-early rows (ForkJoin branches) came out a h = absurd cc
apart-early rows (Split route) came out a h = absurd cc
apart-early rows (Fork outputs) came out a h = copies-early (nat_lt out outputs) came h
apart-early rows Join came zero a h = wholes-early 0 (matches_of came) came.arrive h
apart-early rows Join came (suc out) a h = tt
apart-early rows (Trunk servers demand) came out a h = absurd cc

-- what leaves a join is one stream
pub one-stream : (rows : Rows) (came : Came) (visits : Visits) (streams : List Stream) (leaving : Stream) → visits ≡ sequence_visits rows Join came → leaving ≡ sequence_stream rows Join came 0 → streams ≡ leaving ∷ [] → AreSequences rows Join came visits streams
one-stream rows came visits streams leaving v l s =
    record {
      visits = v;
      count = ap length s;
      each = λ out k. ap (λ (all : List Stream). slice_get all out) s ∙ only out k;
    }
  where
    only : (out : ℕ) → out < 1 → slice_get (leaving ∷ []) out ≡ Some (sequence_stream rows Join came out)
    only zero k = ap Some l
    only (suc out) k = absurd (omega arith)

-- what each index finds
pub each-found : {X : Type 0} (P : X → Type 0) (xs : List X) → ((b : ℕ) (d : X) → b < length xs → P (get_or xs b d)) → Each P xs
each-found P [] h = tt
each-found P (x ∷ xs) h = (h 0 x (omega arith), each-found P xs (λ b d l. h (suc b) d (omega arith)))

-- each visit has its fate
fates-many : (b : Behaviour) (s : Station Local) (position : ℕ) (xs : List Visit) → length (fates_by b s position xs) ≡ length xs
fates-many b s position [] = refl
fates-many b s position (x ∷ xs) = ap suc (fates-many b s (suc position) xs)

-- A fork or a join of a run.
module _ (laws : CoreLaws) (plan : Plan) (rows : Rows) (outputs : List (List Stream)) (v : ℕ) (node : Node) (read : IsReadFor plan.net rows) (can : CanGather plan rows outputs v) (there : slice_get plan.net.nodes v ≡ Some node) where
  abbrev xs : List Visit
  xs = ((run_of plan rows).stations v).visits

  -- it has room for one port more
  pub gather-few : (port : ℕ) (input : Input) (old : Gathered) (stream : Stream) → slice_get node.inputs port ≡ Some input → IsStream stream → pairs_of stream ≡ pairs_read outputs input → AreGathered outputs node.inputs port old → length old.port + length stream.time ≤ 1048576
  gather-few port input old stream at is reads was =
      let a = grows outputs node.inputs port input stream at is reads in
      let b = reads-less outputs 0 node.inputs (port + 1) in
      let c = ap length (can.all.ports node there (apart-other node.kind (can.apart node there))) in
      let d = in_order_of-length (λ (p : ℕ × ℕ × ℕ). p.0) (read_by outputs 0 node.inputs) in
      let e : length (came xs) ≡ length xs = length-map xs _ in
      let f = was.many in
      let g = can.few in
      omega arith

  -- all ports are gathered
  pub gathered-all : (port : ℕ) (gathered : Gathered) → length node.inputs ≤ port → AreGathered outputs node.inputs port gathered → gathered.ports ≡ port → port ≡ length node.inputs → IsGatheredAt plan rows v gathered
  gathered-all port gathered l was p n other at =
      let same : node ≡ other = some_inj _ _ (sym there ∙ at) in (
        p ∙ (n ∙ ap (λ (m : Node). length m.inputs) same),
        was.arrivals ∙ (ap (λ is. in_order_of (λ (q : ℕ × ℕ × ℕ). q.0) (read_by outputs 0 is)) (take-all node.inputs port l) ∙ sym (can.all.ports node there (apart-other node.kind (can.apart node there)))),
      )

  -- what is gathered is what came
  came-is : (gathered : Gathered) → IsGatheredAt plan rows v gathered → came_to gathered ≡ came_of (length node.inputs) xs
  came-is gathered g = laws.gathered gathered xs (g node there).1 ∙ ap (λ n. came_of n xs) (g node there).0

  -- the visits are those of the run
  visits-are : (gathered : Gathered) (visits : Visits) (streams : List Stream) → IsGatheredAt plan rows v gathered → AreSequences rows node.kind (came_to gathered) visits streams → visits ≡ visits_of node.kind ((run_of plan rows).stations v)
  visits-are gathered visits streams g s = s.visits ∙ (ap (sequence_visits rows node.kind) (came-is gathered g) ∙ sym (laws.sequences plan rows read v node there).visits)

  -- and so are the streams
  streams-are : (gathered : Gathered) (visits : Visits) (streams : List Stream) → IsGatheredAt plan rows v gathered → AreSequences rows node.kind (came_to gathered) visits streams → streams ≡ streams_below (run_of plan rows) v (outputs_in node.kind)
  streams-are gathered visits streams g s =
      laws.make (run_of plan rows) v (outputs_in node.kind) streams s.count
      (λ out l. s.each out l ∙ (ap (λ c. Some (sequence_stream rows node.kind c out)) (came-is gathered g) ∙ ap Some (sym ((laws.sequences plan rows read v node there).stream out))))

  -- its visits are few
  jobs-few : length (visits_of node.kind ((run_of plan rows).stations v)).job ≤ 1048576
  jobs-few = let a : length (jobs_of xs) ≡ length xs = length-map xs _ in let b = can.few in omega arith

  pub fates-few : (gathered : Gathered) (visits : Visits) (streams : List Stream) → IsGatheredAt plan rows v gathered → AreSequences rows node.kind (came_to gathered) visits streams → length visits.fate ≤ 1048576
  fates-few gathered visits streams g s =
      let a = ap (λ (x : Visits). length x.fate) (visits-are gathered visits streams g s) in
      let b = fates-many (behaviour_of node.kind) ((run_of plan rows).stations v) 0 xs in
      let c = can.few in
      omega arith

  -- the arrivals are early
  arrives-early : AreEarly outputs → EarlyTimes (arrives_of xs)
  arrives-early early =
      stream-early (record { job = jobs_of xs; time = arrives_of xs }) _
      (record { even = length-map xs _ ∙ sym (length-map xs _); rising = (laws.streams plan rows v).arrivals })
      (can.all.comes node there) (arriving-early plan rows outputs v node read early)

  stream-is-early : AreEarly outputs → (out : ℕ) → EarlyTimes (stream_from ((run_of plan rows).stations v) out).time
  stream-is-early early out =
      subst (λ (s : Stream). EarlyTimes s.time) (sym ((laws.sequences plan rows read v node there).stream out))
      (apart-early rows node.kind (came_of (length node.inputs) xs) out (can.apart node there) (arrives-early early))

  -- why it is refused
  apart-refusal : (gathered : Gathered) (visits : Visits) (streams : List Stream) (first : Option LateVisit) → IsGatheredAt plan rows v gathered → AreSequences rows node.kind (came_to gathered) visits streams → first_of (sequence_late_from plan.net.bound v 0 visits.fate) ≡ first →
      sequence_refusal plan.net.bound v (visits_of node.kind ((run_of plan rows).stations v)) ≡ option_map (λ late. Past late) first
  apart-refusal gathered visits streams first g s h =
      refusal-few plan.net.bound v (visits_of node.kind ((run_of plan rows).stations v)) first jobs-few
      (ap (λ (x : Visits). first_of (sequence_late_from plan.net.bound v 0 x.fate)) (sym (visits-are gathered visits streams g s)) ∙ h)

  -- what it gives is what the run has
  apart-known : AreEarly outputs → (gathered : Gathered) (visits : Visits) (streams : List Stream) → IsGatheredAt plan rows v gathered → AreSequences rows node.kind (came_to gathered) visits streams → first_of (sequence_late_from plan.net.bound v 0 visits.fate) ≡ None →
      IsKnown plan rows v node (OnTime visits streams)
  apart-known early gathered visits streams g s h = (
    visits-are gathered visits streams g s,
    streams-are gathered visits streams g s,
    λ out stream e.
        let same = streams-are gathered visits streams g s in
        let inside : out < outputs_in node.kind = subst (λ m. out < m) s.count (slice_get_within streams out stream e) in
        let is : stream_from ((run_of plan rows).stations v) out ≡ stream = some_inj _ _ (sym (laws.have (run_of plan rows) v (outputs_in node.kind) out inside) ∙ (ap (λ (l : List Stream). slice_get l out) (sym same) ∙ e)) in
        record {
          ordered = left-ordered laws.have laws.streams plan rows v (outputs_in node.kind) out streams stream same s.count e;
          early = subst (λ (z : Stream). EarlyTimes z.time) is (stream-is-early early out);
        },
    apart-refusal gathered visits streams None g s h,
  )

  -- so is how it ends
  pub apart-ended : AreEarly outputs → (gathered : Gathered) (visits : Visits) (streams : List Stream) (ending : Ending) → IsGatheredAt plan rows v gathered → AreSequences rows node.kind (came_to gathered) visits streams → IsEndingOf plan.net.bound v visits streams ending →
      IsKnown plan rows v node ending
  apart-ended early gathered visits streams (OnTime seen left) g s h =
      subst (λ (z : Visits × List Stream). IsKnown plan rows v node (OnTime z.0 z.1)) (λ k. (sym h.0 k, sym h.1 k)) (apart-known early gathered visits streams g s h.2)
  apart-ended early gathered visits streams (TooMany fault) g s h = absurd h
  apart-ended early gathered visits streams (TooLate fault) g s h = apart-refusal gathered visits streams (Some (late_told fault)) g s h
