-- How the nodes of a wave are told apart: by how many jobs come to each, and by its kind.
use Rattle.std.proofs.Common.{◌≡◌, ℕ, zero, suc, ◌+◌, ◌*◌, ◌<◌, ◌≤◌, Bool, true, false, cond, eqb, List, [], ◌∷◌, ◌++◌, length, map, get_or, take, Some, Result, Ok, Err, IfOk, sym, refl, ap, ◌∙◌, subst, arith, length-append}
use Rattle.std.specs.Prelude.{Contains, slice_get}
use Rattle.std.specs.List.{AllByRecursion as Each, flat_map}
use Rattle.std.proofs.lemmas.List.{length-map}
use Rattle.std.proofs.lemmas.Option.{slice_get-get_or}
use Rattle.mq_base.proofs.lemmas.Each.{Each-append, Each-weaker}
use Rattle.mq_base.proofs.lemmas.Lists.{get-some, some_inj, take-all}
use Rattle.mq_core.proofs.lemmas.Orders.{in_order_of-length}
use Rattle.mq_core.specs.SequenceLaws.{arrives_of, jobs_of, sends_once}
use Rattle.mq_core.specs.Sequences.{IsStream, rows_at}
use Rattle.mq_core.specs.StandardTable.{run_of}
use Rattle.mq_core.specs.Streams.{pairs_of}
use Rattle.mq_core.specs.Theorems.{IsReadFor}
use Rattle.mq_core.specs.Wiring.{is_source_kind}
use Rattle.mq_core.specs.declared.model.Input.{Input}
use Rattle.mq_core.specs.declared.model.Kind.{Kind}
use Rattle.mq_core.specs.declared.model.Kind.TheVariants.{Source, Server, Delay, Loss, Tandem, ForkJoin, Split, Fork, Join, Trunk}
use Rattle.mq_core.specs.declared.model.Node.{Node}
use Rattle.mq_core.specs.declared.model.Plan.{Plan}
use Rattle.mq_core.specs.declared.model.Rows.{Rows}
use Rattle.mq_core.specs.declared.model.Stream.{Stream}
use Rattle.mq_engine.specs.Apart.{CanGather}
use Rattle.mq_engine.specs.Counting.{IsKeepingTurn}
use Rattle.mq_exits.specs.Results.{IsKnown, IsResultOf}
use Rattle.mq_core.specs.Results.{visits_of}
use Rattle.mq_engine.specs.Progress.{AreEarly, CanWork, CanWorkAll, HasAll}
use Rattle.mq_engine.specs.Waves.{AreSorted, IsApartOf, IsCrowded, IsStationOf, IsWave, IsWay}
use Rattle.mq_engine.specs.declared.wave.Wave.{Wave}
use Rattle.mq_engine.specs.declared.wave.Way.{Way}
use Rattle.mq_engine.specs.declared.wave.Way.TheVariants.{Crowded, Apart, Station}
use Rattle.mq_arrivals.specs.Arrivals.{IsArriving, arriving, pairs_read}
use Rattle.mq_arrivals.specs.declared.nodes.Arriving.{Arriving}
use Rattle.mq_exits.specs.declared.working.Ending.TheVariants.{TooMany}
use Rattle.mq_exits.specs.Turns.{IsGiven, result_given}
use Rattle.mq_exits.specs.declared.keeping.Keep.{Keep}
use Rattle.mq_exits.specs.declared.turns.Given.{Given}
use Rattle.mq_exits.specs.declared.turns.Given.TheVariants.{Ended, InTurn as Turned}
use Rattle.mq_exits.specs.declared.working.NodeResult.{NodeResult}
use Rattle.mq_base.proofs.lemmas.FlatMaps.{flat_map-more}
use Rattle.mq_base.proofs.lemmas.Zips.{zip-length}
use Rattle.mq_merge.proofs.Merging.{length-pairs}
use Rattle.mq_exits.proofs.Known.{refusal-many}
use Rattle.mq_engine.proofs.Waves.{can-come}

-- the item at an index of a list is in it
pub all-at : (s : Arriving) (v : ℕ) → IsWave s → Contains s.ready.now v → HasAll s.plan.now s.rows.now s.outputs.now v
all-at s v wave ready = wave.all ready.0 v (slice_get-get_or s.ready.now ready.0 v ready.1 ∙ ap Some ready.2)

-- what comes by one port more
pub count-more : (outputs : List (List Stream)) (inputs : List Input) (port count count' : ℕ) (input : Input) (stream : Stream) → slice_get inputs port ≡ Some input → IsStream stream → pairs_of stream ≡ pairs_read outputs input → length (pairs_read outputs input) ≤ 1048576 →
    count' ≡ count + length stream.time → (count ≡ length (flat_map (pairs_read outputs) (take port inputs))) × (count ≤ port * 1048576) →
    (count' ≡ length (flat_map (pairs_read outputs) (take (port + 1) inputs))) × (count' ≤ (port + 1) * 1048576)
count-more outputs inputs port count count' input stream there is reads short e was =
    let a = ap length (flat_map-more (pairs_read outputs) inputs port input there) in
    let b = length-append (flat_map (pairs_read outputs) (take port inputs)) (pairs_read outputs input) in
    let c = length-pairs stream is.even in
    let d = ap length reads in
    let f = was.0 in
    let g = was.1 in
    (omega arith, omega arith)

-- the rows of a source are no more than all
pub rows-less : (node job : ℕ) (sources times : List ℕ) → length (rows_at node job sources times) ≤ length times
rows-less node job [] times = omega arith
rows-less node job (s ∷ ss) [] = omega arith
rows-less node job (s ∷ ss) (t ∷ ts) = go (eqb s node) (rows-less node (suc job) ss ts)
  where
    go : (b : Bool) → length (rows_at node (suc job) ss ts) ≤ length ts → length (cond b ((t, job) ∷ rows_at node (suc job) ss ts) (rows_at node (suc job) ss ts)) ≤ suc (length ts)
    go true k = omega arith
    go false k = omega arith

-- how many come
module _ (plan : Plan) (rows : Rows) (outputs : List (List Stream)) (v : ℕ) (node : Node) (all : HasAll plan rows outputs v) (there : slice_get plan.net.nodes v ≡ Some node) where
  arriving-many : length (arriving rows v node outputs) ≡ length ((run_of plan rows).stations v).visits
  arriving-many =
      let xs = ((run_of plan rows).stations v).visits in
      let a = ap length (all.comes node there) in
      let b = in_order_of-length (λ (p : ℕ × ℕ). p.0) (arriving rows v node outputs) in
      let c : length (arrives_of xs) ≡ length xs = length-map xs _ in
      let d : length (jobs_of xs) ≡ length xs = length-map xs _ in
      let e = zip-length (arrives_of xs) (jobs_of xs) (omega arith) in
      omega arith

  pub source-few : IsReadFor plan.net rows → is_source_kind node.kind ≡ true → length ((run_of plan rows).stations v).visits ≤ 1048576
  source-few read e =
      let a = arriving-many in
      let b : arriving rows v node outputs ≡ rows_at v 0 rows.source rows.time = ap (λ b. cond b (rows_at v 0 rows.source rows.time) (flat_map (pairs_read outputs) node.inputs)) e in
      let c = ap length b in
      let d = rows-less v 0 rows.source rows.time in
      let f = read.times in
      let g = read.count in
      omega arith

  pub ports-many : is_source_kind node.kind ≡ false → length (flat_map (pairs_read outputs) node.inputs) ≡ length ((run_of plan rows).stations v).visits
  ports-many e =
      let b : arriving rows v node outputs ≡ flat_map (pairs_read outputs) node.inputs = ap (λ b. cond b (rows_at v 0 rows.source rows.time) (flat_map (pairs_read outputs) node.inputs)) e in
      ap length (sym b) ∙ arriving-many

  -- a station
  pub can-serve : length ((run_of plan rows).stations v).visits ≤ 1048576 → sends_once node.kind ≡ true → CanWork plan rows outputs v
  can-serve few once =
      record {
        inside = all.inside;
        there = all.there;
        comes = all.comes;
        few = few;
        once = λ other at. ap (λ (n : Node). sends_once n.kind) (some_inj _ _ (sym at ∙ there)) ∙ once;
      }

  -- a fork or a join
  pub can-gather : length ((run_of plan rows).stations v).visits ≤ 1048576 → sends_once node.kind ≡ false → CanGather plan rows outputs v
  can-gather few apart =
      record { all = all; few = few; apart = λ other at. ap (λ (n : Node). sends_once n.kind) (some_inj _ _ (sym at ∙ there)) ∙ apart }

-- a source lets each job out once
pub source-once : (kind : Kind) → is_source_kind kind ≡ true → sends_once kind ≡ true
source-once Source e = refl
source-once (Server demand) e = refl
source-once (Delay demand) e = refl
source-once (Loss places demand) e = refl
source-once (Tandem stages) e = refl
source-once (ForkJoin branches) e = refl
source-once (Split route) e = refl
source-once (Fork outputs) e = absurd cc
source-once Join e = absurd cc
source-once (Trunk servers demand) e = refl

-- one that is told of these is one of those
pub results-among : (plan : Plan) (rows : Rows) (some all : List ℕ) (results : List NodeResult) → ((v : ℕ) → Contains some v → Contains all v) → Each (IsResultOf plan rows some) results → Each (IsResultOf plan rows all) results
results-among plan rows some all results among = Each-weaker (IsResultOf plan rows some) _ (λ node_result h. (among node_result.number h.0, h.1)) results

-- the same of what is given
one-among : (keep : Keep) (plan : Plan) (rows : Rows) (some all : List ℕ) → ((v : ℕ) → Contains some v → Contains all v) → (given : Given) → IsGiven keep plan rows some given → IsGiven keep plan rows all given
one-among keep plan rows some all among (Ended node_result) h = (among node_result.number h.0, h.1)
one-among keep plan rows some all among (Turned it) h = (h.0, (among it.held.number h.1.0, h.1.1), h.2)

pub given-among : (keep : Keep) (plan : Plan) (rows : Rows) (some all : List ℕ) (given : List Given) → ((v : ℕ) → Contains some v → Contains all v) → Each (IsGiven keep plan rows some) given → Each (IsGiven keep plan rows all) given
given-among keep plan rows some all given among = Each-weaker (IsGiven keep plan rows some) _ (one-among keep plan rows some all among) given

-- where each item of a list has something, what is in it has
pub each-contained : (P : ℕ → Type 0) (xs : List ℕ) → Each P xs → (v : ℕ) → Contains xs v → P v
each-contained P xs all v h = go xs all h.0 h.1 h.2
  where
    go : (ys : List ℕ) → Each P ys → (i : ℕ) → i < length ys → get_or ys i v ≡ v → P v
    go [] k i l e = absurd (omega arith)
    go (y ∷ ys) k zero l e = subst P e k.0
    go (y ∷ ys) k (suc i) l e = go ys k.1 i (omega arith) e

-- a stream that a port reads
pub port-short : (pairs : List (ℕ × ℕ)) (stream : Stream) → IsStream stream → pairs_of stream ≡ pairs → length pairs ≤ 1048576 → length stream.time ≤ 1048576
port-short pairs stream is e few =
    let long = length-pairs stream is.even in
    let same = ap length e in
    omega arith

-- what comes by all ports
pub all-count : (outputs : List (List Stream)) (nodes : List Node) (v : ℕ) (own node : Node) (port count : ℕ) → slice_get nodes v ≡ Some own → slice_get nodes v ≡ Some node → length own.inputs ≤ port → count ≡ length (flat_map (pairs_read outputs) (take port own.inputs)) →
    count ≡ length (flat_map (pairs_read outputs) node.inputs)
all-count outputs nodes v own node port count a b l e =
    e
    ∙ (ap (λ is. length (flat_map (pairs_read outputs) is)) (take-all own.inputs port l)
    ∙ ap (λ (n : Node). length (flat_map (pairs_read outputs) n.inputs)) (some_inj own node (sym a ∙ b)))

-- what stands at an index is among them
pub contains-at : (xs : List ℕ) (i d : ℕ) → i < length xs → Contains xs (get_or xs i d)
contains-at xs i d l = (i, l, some_inj _ _ (sym (slice_get-get_or xs i (get_or xs i d) l) ∙ slice_get-get_or xs i d l))

-- how a node ends that has too many visits
crowded-result : (s : Arriving) (v count : ℕ) (r : NodeResult) → IsWave s → Contains s.ready.now v → IsCrowded s.plan.now s.rows.now v count → r.number ≡ v → r.ending ≡ TooMany (record { node = v; count = count }) → IsResultOf s.plan.now s.rows.now s.ready.now r
crowded-result s v count r wave ready many number ending =
    let at = get-some s.plan.now.net.nodes v (all-at s v wave ready).inside in
    let xs = ((run_of s.plan.now s.rows.now).stations v).visits in
    let known : IsKnown s.plan.now s.rows.now v at.0 (TooMany (record { node = v; count = count })) = refusal-many s.plan.now.net.bound v count (visits_of at.0.kind ((run_of s.plan.now s.rows.now).stations v)) (length-map xs _ ∙ many.0) many.1 in
    subst (IsResultOf s.plan.now s.rows.now s.ready.now) (λ k. record { number = sym number k; ending = sym ending k }) (ready, (at.0, at.1, known))

-- how many nodes have been told apart
abbrev pub told_apart : Wave → ℕ
told_apart wave = length wave.crowded + length wave.apart.items + length wave.stations.items

-- one node more: it has too many visits, is a fork or a join, or a station
pub sorted-crowded : (s : Arriving) (at d count : ℕ) (way : Way) (wave wave' : Wave) (r : NodeResult) → IsWave s → at < length s.ready.now → IsWay s (get_or s.ready.now at d) way → way ≡ Crowded count → r.number ≡ get_or s.ready.now at d → r.ending ≡ TooMany (record { node = get_or s.ready.now at d; count = count }) →
    wave'.crowded ≡ wave.crowded ++ r ∷ [] → wave'.apart.items ≡ wave.apart.items → wave'.stations.items ≡ wave.stations.items → told_apart wave ≡ at → AreSorted s wave → (told_apart wave' ≡ at + 1) × AreSorted s wave'
sorted-crowded s at d count way wave wave' r is inside told e number ending a b c len sorted =
    let v = get_or s.ready.now at d in
    let many = subst (IsWay s v) e told in
    let own = crowded-result s v count r is (contains-at s.ready.now at d inside) many number ending in
    let P = IsResultOf s.plan.now s.rows.now s.ready.now in (
      (let x = ap length a in let y = ap length b in let z = ap length c in let g = length-append wave.crowded (r ∷ []) in omega arith),
      record {
        crowded = subst (Each P) (sym a) (Each-append P wave.crowded (r ∷ []) sorted.crowded (own, tt));
        apart = subst (Each (IsApartOf s)) (sym b) sorted.apart;
        stations = subst (Each (IsStationOf s)) (sym c) sorted.stations;
      },
    )

pub sorted-apart : (s : Arriving) (at d : ℕ) (way : Way) (wave wave' : Wave) → at < length s.ready.now → IsWay s (get_or s.ready.now at d) way → way ≡ Apart →
    wave'.crowded ≡ wave.crowded → wave'.apart.items ≡ wave.apart.items ++ get_or s.ready.now at d ∷ [] → wave'.stations.items ≡ wave.stations.items → told_apart wave ≡ at → AreSorted s wave → (told_apart wave' ≡ at + 1) × AreSorted s wave'
sorted-apart s at d way wave wave' inside told e a b c len sorted =
    let v = get_or s.ready.now at d in
    let can = subst (IsWay s v) e told in (
      (let x = ap length a in let y = ap length b in let z = ap length c in let g = length-append wave.apart.items (v ∷ []) in omega arith),
      record {
        crowded = subst (Each (IsResultOf s.plan.now s.rows.now s.ready.now)) (sym a) sorted.crowded;
        apart = subst (Each (IsApartOf s)) (sym b) (Each-append (IsApartOf s) wave.apart.items (v ∷ []) sorted.apart ((contains-at s.ready.now at d inside, can), tt));
        stations = subst (Each (IsStationOf s)) (sym c) sorted.stations;
      },
    )

pub sorted-station : (s : Arriving) (at d : ℕ) (way : Way) (wave wave' : Wave) → at < length s.ready.now → IsWay s (get_or s.ready.now at d) way → way ≡ Station →
    wave'.crowded ≡ wave.crowded → wave'.apart.items ≡ wave.apart.items → wave'.stations.items ≡ wave.stations.items ++ get_or s.ready.now at d ∷ [] → told_apart wave ≡ at → AreSorted s wave → (told_apart wave' ≡ at + 1) × AreSorted s wave'
sorted-station s at d way wave wave' inside told e a b c len sorted =
    let v = get_or s.ready.now at d in
    let can = subst (IsWay s v) e told in (
      (let x = ap length a in let y = ap length b in let z = ap length c in let g = length-append wave.stations.items (v ∷ []) in omega arith),
      record {
        crowded = subst (Each (IsResultOf s.plan.now s.rows.now s.ready.now)) (sym a) sorted.crowded;
        apart = subst (Each (IsApartOf s)) (sym b) sorted.apart;
        stations = subst (Each (IsStationOf s)) (sym c) (Each-append (IsStationOf s) wave.stations.items (v ∷ []) sorted.stations ((contains-at s.ready.now at d inside, can), tt));
      },
    )

-- the stations can be worked out, and what comes to them can be put in order
pub can-all : (s : Arriving) (stations : List ℕ) → Each (IsStationOf s) stations → CanWorkAll s.plan.now s.rows.now s.outputs.now stations
can-all s stations all k v e = go stations all k e
  where
    go : (vs : List ℕ) → Each (IsStationOf s) vs → (i : ℕ) → slice_get vs i ≡ Some v → CanWork s.plan.now s.rows.now s.outputs.now v
    go [] h i g = absurd cc
    go (w ∷ ws) h zero g = subst (CanWork s.plan.now s.rows.now s.outputs.now) (some_inj w v g) h.0.1
    go (w ∷ ws) h (suc i) g = go ws h.1 i g

pub serves : (s : Arriving) → IsReadFor s.plan.now.net s.rows.now → AreEarly s.outputs.now → CanWorkAll s.plan.now s.rows.now s.outputs.now s.ready.now → length s.ready.now ≤ 64 → 1 ≤ s.block → IsArriving s
serves s read early can few block =
    record {
      read = read;
      ordered = λ u out streams stream a b. (early u out streams stream a b).ordered;
      can = λ k v e. can-come s v (can k v e);
      nodes = few;
      block = block;
    }

-- what is given is what the run has, in turn
given-result : (keep : Keep) (plan : Plan) (rows : Rows) (ready : List ℕ) (one : Given) → IsGiven keep plan rows ready one → IsResultOf plan rows ready (result_given one)
given-result keep plan rows ready (Ended node_result) h = h
given-result keep plan rows ready (Turned it) h = h.1

pub given-results : (keep : Keep) (plan : Plan) (rows : Rows) (ready : List ℕ) (given : List Given) → Each (IsGiven keep plan rows ready) given → Each (IsResultOf plan rows ready) (map result_given given)
given-results keep plan rows ready [] h = tt
given-results keep plan rows ready (one ∷ given) h = (given-result keep plan rows ready one h.0, given-results keep plan rows ready given h.1)

turn-kept : (keep : Keep) (plan : Plan) (rows : Rows) (ready : List ℕ) (one : Given) → IsGiven keep plan rows ready one → IsKeepingTurn one
turn-kept keep plan rows ready (Ended node_result) h = tt
turn-kept keep plan rows ready (Turned it) h = h.2

pub turns-kept : (keep : Keep) (plan : Plan) (rows : Rows) (ready : List ℕ) (given : List Given) → Each (IsGiven keep plan rows ready) given → Each IsKeepingTurn given
turns-kept keep plan rows ready given = Each-weaker (IsGiven keep plan rows ready) _ (turn-kept keep plan rows ready) given

-- two answers of one call
pub IfOk-both : {X E : Type 0} (r : Result X E) (P Q : X → Type 0) → IfOk r P → IfOk r Q → IfOk r (λ x. P x × Q x)
IfOk-both (Ok x) P Q p q = (p, q)
IfOk-both (Err e) P Q p q = tt
