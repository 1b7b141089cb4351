-- The waves of the engine: what is done so far are the sequences of the run.
use Rattle.std.proofs.Common.{◌≡◌, ◌≢◌, ℕ, suc, [], ◌∷◌, ◌++◌, ◌<◌, ◌≤◌, ◌⊎◌, inl, inr, Bool, true, false, cond, List, length, set, map, Option, Some, None, refl, sym, ap, ◌∙◌, subst, arith}
use Rattle.std.specs.Prelude.{slice_get}
use Rattle.std.specs.List.{flat_map, list_all, zip}
use Rattle.std.proofs.lemmas.Bool.{and_parts, cases_eq}
use Rattle.std.proofs.lemmas.List.{length-map, length-set}
use Rattle.std.proofs.lemmas.Option.{slice_get-get_or, slice_get_within}
use Rattle.mq_base.proofs.lemmas.FlatMaps.{flat_map-same}
use Rattle.mq_base.proofs.lemmas.Lists.{get-set_other, get-set_same, get-some, some_inj}
use Rattle.mq_base.proofs.lemmas.Zips.{zip-jobs, zip-length, zip-times}
use Rattle.mq_stations.proofs.lemmas.Leaves.{once-leaves}
use Rattle.mq_core.proofs.lemmas.Orders.{in_order_of-length}
use Rattle.mq_core.specs.Alone.{came as came_at}
use Rattle.mq_core.specs.Came.{came_by, came_of}
use Rattle.mq_core.specs.Laws.{in_order_of}
use Rattle.mq_core.specs.SequenceLaws.{arrives_of, jobs_of, read_from, sends_once}
use Rattle.mq_core.specs.Sequences.{IsStream, sequence_refusal, sequence_stream, rows_at, streams_below}
use Rattle.mq_core.specs.Streams.{by_first, pairs_of}
use Rattle.mq_core.specs.Results.{stream_from, visits_of}
use Rattle.mq_core.specs.RunLaws.{HasSequences}
use Rattle.mq_core.specs.Sound.{outputs_in}
use Rattle.mq_core.specs.StandardTable.{run_of}
use Rattle.mq_core.specs.Theorems.{IsReadFor}
use Rattle.mq_core.specs.Wiring.{is_source_kind}
use Rattle.mq_core.specs.declared.model.Input.{Input}
use Rattle.mq_core.specs.declared.model.Node.{Node}
use Rattle.mq_core.specs.declared.model.Plan.{Plan}
use Rattle.mq_core.specs.declared.model.Rows.{Rows}
use Rattle.mq_core.specs.declared.model.Stream.{Stream}
use Rattle.mq_core.specs.declared.model.Visits.{Visits}
use Rattle.mq_stations.specs.Leaving.{IsEarlyStream, IsLoad}
use Rattle.mq_stations.proofs.lemmas.Lists.{Each-get}
use Rattle.mq_merge.specs.Borrowed.{stream_in}
use Rattle.mq_arrivals.specs.Arrivals.{CanCome, HasArrived, IsArriving, IsThere, arriving, pairs_by, pairs_in, pairs_read}
use Rattle.mq_arrivals.specs.declared.nodes.Arrived.{Arrived}
use Rattle.mq_arrivals.specs.declared.nodes.Arriving.{Arriving}
use Rattle.mq_exits.specs.Loads.{IsArrived}
use Rattle.mq_exits.specs.Results.{IsKnown, IsWorkedOut}
use Rattle.mq_exits.specs.declared.working.Ending.{Ending}
use Rattle.mq_exits.specs.declared.working.Ending.TheVariants.{OnTime, TooMany, TooLate}
use Rattle.mq_exits.specs.declared.working.NodeResult.{NodeResult}
use Rattle.mq_exits.proofs.Known.{fine-few}
use Rattle.mq_engine.specs.CoreLaws.{CoreLaws}
use Rattle.mq_engine.specs.Places.{IsArrivedAt}
use Rattle.mq_engine.specs.Progress.{AreEarly, CanWork, CanWorkAll, HasAll, IsEndPut, IsPut, IsReached, Tells, is_done, is_read, is_ready, is_waiting, read_by, reads_done, stands_at}
use Rattle.mq_engine.specs.declared.progress.Stand.{Stand}
use Rattle.mq_engine.specs.declared.progress.Stand.TheVariants.{Waiting, Done, Crowded, Late}
use Rattle.mq_engine.proofs.Early.{EarlyPairs, flat-early, reads-early, rows-early, stream-early}
use Rattle.mq_engine.proofs.Lists.{Each-at, all-get}

-- what the ports of a node read is there, and is what the run has of nodes that it doesn't refuse
pub record IsFed (plan : Plan) (rows : Rows) (outputs : List (List Stream)) (v : ℕ) (node : Node) : Type 0 where
  pub there : slice_get plan.net.nodes v ≡ Some node
  pub feeds : (port : ℕ) (input : Input) (named : Node) → slice_get node.inputs port ≡ Some input → slice_get plan.net.nodes input.node ≡ Some named →
      (slice_get outputs input.node ≡ Some (streams_below (run_of plan rows) input.node (outputs_in named.kind)))
      × (sequence_refusal plan.net.bound input.node (visits_of named.kind ((run_of plan rows).stations input.node)) ≡ None)

-- what a port reads is there, and is what the run has
record HasInput (plan : Plan) (rows : Rows) (outputs : List (List Stream)) (input : Input) : Type 0 where
  node : Node
  out : input.out < outputs_in node.kind
  streams : slice_get outputs input.node ≡ Some (streams_below (run_of plan rows) input.node (outputs_in node.kind))

has-input : (laws : CoreLaws) (plan : Plan) (rows : Rows) (outputs : List (List Stream)) (v : ℕ) (node : Node) → IsFed plan rows outputs v node → (port : ℕ) (input : Input) → slice_get node.inputs port ≡ Some input → HasInput plan rows outputs input
has-input laws plan rows outputs v node n port input e =
    let named = (laws.limits plan v node n.there).reads port input e in
    record {
      node = named.node;
      out = named.out;
      streams = (n.feeds port input named.node e named.there).0;
    }

pub inputs-there : (laws : CoreLaws) (plan : Plan) (rows : Rows) (outputs : List (List Stream)) (v : ℕ) (node : Node) → IsFed plan rows outputs v node → (port : ℕ) (input : Input) → slice_get node.inputs port ≡ Some input → IsThere outputs input
inputs-there laws plan rows outputs v node n port input e =
    let h = has-input laws plan rows outputs v node n port input e in
    record {
      node = slice_get_within outputs input.node _ h.streams;
      out = λ streams g. slice_get_within streams input.out _ (ap (λ s. slice_get s input.out) (some_inj _ _ (sym g ∙ h.streams)) ∙ laws.have (run_of plan rows) input.node (outputs_in h.node.kind) input.out h.out);
    }

inputs-read : (laws : CoreLaws) (plan : Plan) (rows : Rows) (outputs : List (List Stream)) (v : ℕ) (node : Node) → IsFed plan rows outputs v node → (port : ℕ) (input : Input) → slice_get node.inputs port ≡ Some input →
    pairs_read outputs input ≡ pairs_of (stream_from ((run_of plan rows).stations input.node) input.out)
inputs-read laws plan rows outputs v node n port input e =
    let h = has-input laws plan rows outputs v node n port input e in
    ap (λ o. pairs_in o input.out) h.streams ∙ ap pairs_by (laws.have (run_of plan rows) input.node (outputs_in h.node.kind) input.out h.out)

-- the stream of a port is no longer than what a node may let out
inputs-short : (laws : CoreLaws) (plan : Plan) (rows : Rows) (outputs : List (List Stream)) (v : ℕ) (node : Node) → IsFed plan rows outputs v node → IsReadFor plan.net rows → (port : ℕ) (input : Input) → slice_get node.inputs port ≡ Some input →
    length (pairs_read outputs input) ≤ 1048576
inputs-short laws plan rows outputs v node n read port input e =
    let named = (laws.limits plan v node n.there).reads port input e in
    let end = (run_of plan rows).stations input.node in
    let fine = (n.feeds port input named.node e named.there).1 in
    let few = fine-few plan.net.bound input.node (visits_of named.node.kind end) fine in
    let many : length (jobs_of end.visits) ≡ length end.visits = length-map end.visits _ in
    let leaves = laws.leave plan rows read input.node named.node named.there (omega arith) input.out in
    let same = ap length (inputs-read laws plan rows outputs v node n port input e) in
    let long = zip-length (stream_from end input.out).time (stream_from end input.out).job leaves.even in
    let most = leaves.few in
    let even = leaves.even in
    omega arith

arriving-run : (laws : CoreLaws) (plan : Plan) (rows : Rows) (outputs : List (List Stream)) (v : ℕ) (node : Node) → IsReadFor plan.net rows → IsFed plan rows outputs v node →
    zip (arrives_of ((run_of plan rows).stations v).visits) (jobs_of ((run_of plan rows).stations v).visits) ≡ by_first (arriving rows v node outputs)
arriving-run laws plan rows outputs v node read n = go (is_source_kind node.kind) refl
  where
    go : (b : Bool) → is_source_kind node.kind ≡ b → zip (arrives_of ((run_of plan rows).stations v).visits) (jobs_of ((run_of plan rows).stations v).visits) ≡ by_first (cond b (rows_at v 0 rows.source rows.time) (flat_map (pairs_read outputs) node.inputs))
    go true e = (laws.arrivals plan rows read v node n.there).source e
    go false e = (laws.arrivals plan rows read v node n.there).other e ∙ ap by_first (sym (flat_map-same _ _ node.inputs (inputs-read laws plan rows outputs v node n)))

-- the same with the port of each
module _ (laws : CoreLaws) (plan : Plan) (rows : Rows) (outputs : List (List Stream)) (v : ℕ) (node : Node) (n : IsFed plan rows outputs v node) where
  read-ports : (first : ℕ) (inputs : List Input) → ((port : ℕ) (input : Input) → slice_get inputs port ≡ Some input → pairs_read outputs input ≡ pairs_of (stream_from ((run_of plan rows).stations input.node) input.out)) →
      read_from (run_of plan rows) first inputs ≡ read_by outputs first inputs
  read-ports first [] h = refl
  read-ports first (input ∷ inputs) h = (λ k. map {B = ℕ × ℕ × ℕ} (λ (p : ℕ × ℕ). (p.0, first, p.1)) (sym (h 0 input refl) k) ++ read-ports (suc first) inputs (λ port i e. h (suc port) i e) k)

  arriving-ports : IsReadFor plan.net rows → is_source_kind node.kind ≡ false → came_at ((run_of plan rows).stations v).visits ≡ in_order_of (λ (p : ℕ × ℕ × ℕ). p.0) (read_by outputs 0 node.inputs)
  arriving-ports read e =
      (laws.arrivals plan rows read v node n.there).ports e ∙ ap (in_order_of (λ (p : ℕ × ℕ × ℕ). p.0)) (read-ports 0 node.inputs (inputs-read laws plan rows outputs v node n))

-- a stream of what comes in the run, item by item
pub arrived-by : (plan : Plan) (rows : Rows) (v : ℕ) (arrivals : Stream) → IsStream arrivals → pairs_of arrivals ≡ zip (arrives_of ((run_of plan rows).stations v).visits) (jobs_of ((run_of plan rows).stations v).visits) → IsArrived plan rows v arrivals
arrived-by plan rows v arrivals s same =
    let xs = ((run_of plan rows).stations v).visits in
    let even : length (jobs_of xs) ≡ length (arrives_of xs) = length-map xs _ ∙ sym (length-map xs _) in
    record {
      job = zip-jobs arrivals.time arrivals.job (arrives_of xs) (jobs_of xs) s.even even same;
      time = zip-times arrivals.time arrivals.job (arrives_of xs) (jobs_of xs) s.even even same;
    }

-- the station can work on them
pub arriving-early : (plan : Plan) (rows : Rows) (outputs : List (List Stream)) (v : ℕ) (node : Node) → IsReadFor plan.net rows → AreEarly outputs → EarlyPairs (arriving rows v node outputs)
arriving-early plan rows outputs v node read early = go (is_source_kind node.kind)
  where
    go : (b : Bool) → EarlyPairs (cond b (rows_at v 0 rows.source rows.time) (flat_map (pairs_read outputs) node.inputs))
    go true = rows-early v 0 rows.source rows.time (Each-at _ rows.time read.early)
    go false = flat-early (pairs_read outputs) (λ input. reads-early outputs input early) node.inputs

pub loaded : (laws : CoreLaws) (plan : Plan) (rows : Rows) (v : ℕ) (node : Node) (arrivals : Stream) → IsReadFor plan.net rows → slice_get plan.net.nodes v ≡ Some node → sends_once node.kind ≡ true → IsArrived plan rows v arrivals → IsEarlyStream arrivals → length arrivals.time ≤ 1048576 →
    IsLoad rows node.kind arrivals
loaded laws plan rows v node arrivals read there once a early few =
    let xs = ((run_of plan rows).stations v).visits in
    record {
      columns = length plan.net.columns;
      sound = (laws.limits plan v node there).kind;
      ordered = early;
      few = few;
      leaves =
          let sequences = laws.sequences plan rows read v node there in
          let blind = laws.blind rows node.kind (came_of (length node.inputs) xs) (once-leaves node.kind once) in
          λ out. subst IsStream (sequences.stream out ∙ (blind.stream out ∙ (λ k. sequence_stream rows node.kind (came_by (sym a.job k) (sym a.time k)) out))) ((laws.streams plan rows v).streams out);
      told = λ k job g.
          let below = subst (λ m. job < m) read.times (Each-get (λ j. j < length rows.time) (jobs_of xs) k job (laws.jobs plan rows v) (subst (λ l. slice_get l k ≡ Some job) a.job g)) in
          laws.demands plan.net rows read job below node.kind (laws.limits plan v node there).kind;
    }

-- what comes to a node that can be worked out is few
pub can-come : (s : Arriving) (v : ℕ) → CanWork s.plan.now s.rows.now s.outputs.now v → CanCome s v
can-come s v can =
    record {
      inside = can.inside;
      there = can.there;
      few = λ node there.
          let xs = ((run_of s.plan.now s.rows.now).stations v).visits in
          let few = can.few in
          let some = zip-length (arrives_of xs) (jobs_of xs) (length-map xs _ ∙ sym (length-map xs _)) in
          let many : length (arrives_of xs) ≡ length xs = length-map xs _ in
          let same = ap length (can.comes node there) in
          let all = in_order_of-length (λ (p : ℕ × ℕ). p.0) (arriving s.rows.now v node s.outputs.now) in
          omega arith;
    }

-- what came to such a node can be worked on
pub has-loaded : (laws : CoreLaws) (s : Arriving) (arrived : Arrived) → IsArriving s → AreEarly s.outputs.now → CanWorkAll s.plan.now s.rows.now s.outputs.now s.ready.now → HasArrived s arrived → IsArrivedAt s arrived
has-loaded laws s arrived h early all come =
    let v = arrived.number in
    let can = all come.ready.0 v (slice_get-get_or s.ready.now come.ready.0 v come.ready.1 ∙ ap Some come.ready.2) in
    let at = get-some s.plan.now.net.nodes v can.inside in
    let node = at.0 in
    let there = at.1 in
    let items = come.items node there in
    let stream = stream_in arrived.arrivals in
    let came = arrived-by s.plan.now s.rows.now v stream come.ordered (items ∙ sym (can.comes node there)) in
    let long : length stream.time ≡ length ((run_of s.plan.now s.rows.now).stations v).visits = ap length came.time ∙ length-map ((run_of s.plan.now s.rows.now).stations v).visits _ in
    let few = can.few in (
      record {
        node = node;
        there = there;
        once = can.once node there;
        came = came;
        load = loaded laws s.plan.now s.rows.now v node stream h.read there (can.once node there) came (record { ordered = come.ordered; early = stream-early stream (arriving s.rows.now v node s.outputs.now) come.ordered items (arriving-early s.plan.now s.rows.now s.outputs.now v node h.read early) }) (omega arith);
      },
      come.ready,
    )

-- a node that is ready waits, and what its ports read is done
pub record IsReady (plan : Plan) (stands : List Stand) (v : ℕ) : Type 0 where
  pub waits : slice_get stands v ≡ Some Waiting
  pub reads : (node : Node) (port : ℕ) (input : Input) → slice_get plan.net.nodes v ≡ Some node → slice_get node.inputs port ≡ Some input → slice_get stands input.node ≡ Some Done

pub ready-at : (plan : Plan) (stands : List Stand) (v : ℕ) → is_ready plan.net.nodes stands v ≡ true → IsReady plan stands v
ready-at plan stands v ready =
    record {
      waits = waiting-at (slice_get stands v) refl (and_parts _ _ ready).0;
      reads = λ node port input at e.
          let all : list_all (is_read stands) node.inputs ≡ true = ap (reads_done stands) (sym at) ∙ (and_parts (stands_at is_waiting (slice_get stands v)) _ ready).1 in
          done-at input.node (slice_get stands input.node) refl (all-get (is_read stands) node.inputs port input all e);
    }
  where
    waiting-at : (o : Option Stand) → slice_get stands v ≡ o → stands_at is_waiting o ≡ true → slice_get stands v ≡ Some Waiting
    waiting-at None e h = absurd cc
    waiting-at (Some Waiting) e h = e
    waiting-at (Some Done) e h = absurd cc
    waiting-at (Some (Crowded fault)) e h = absurd cc
    waiting-at (Some (Late fault)) e h = absurd cc

    done-at : (u : ℕ) (o : Option Stand) → slice_get stands u ≡ o → stands_at is_done o ≡ true → slice_get stands u ≡ Some Done
    done-at u None e h = absurd cc
    done-at u (Some Waiting) e h = absurd cc
    done-at u (Some Done) e h = e
    done-at u (Some (Crowded fault)) e h = absurd cc
    done-at u (Some (Late fault)) e h = absurd cc

-- to a node that is fed all has come
pub fed-all : (laws : CoreLaws) (plan : Plan) (rows : Rows) (outputs : List (List Stream)) (v : ℕ) → IsReadFor plan.net rows → v < length plan.net.nodes → ((node : Node) → slice_get plan.net.nodes v ≡ Some node → IsFed plan rows outputs v node) → HasAll plan rows outputs v
fed-all laws plan rows outputs v read inside fed = record {
  inside = inside;
  there = λ node port input at e. inputs-there laws plan rows outputs v node (fed node at) port input e;
  short = λ node port input at e. inputs-short laws plan rows outputs v node (fed node at) read port input e;
  comes = λ node at. arriving-run laws plan rows outputs v node read (fed node at);
  ports = λ node at other. arriving-ports laws plan rows outputs v node (fed node at) read other;
}

-- to a node that is ready all has come
pub has-all : (laws : CoreLaws) (plan : Plan) (rows : Rows) (visits : List Visits) (outputs : List (List Stream)) (stands : List Stand) (v : ℕ) → IsReadFor plan.net rows → IsReached plan rows visits outputs stands → is_ready plan.net.nodes stands v ≡ true → HasAll plan rows outputs v
has-all laws plan rows visits outputs stands v read r ready =
    let at = ready-at plan stands v ready in
    fed-all laws plan rows outputs v read (subst (λ m. v < m) r.stand (slice_get_within stands v Waiting at.waits)) (λ node there. record {
      there = there;
      feeds = λ port input named e here. let told = r.told input.node named Done here (at.reads node port input there e) in (told.0.outputs, told.1);
    })

-- at one number stands one node
pub one-node : (plan : Plan) (v w : ℕ) (node other : Node) → slice_get plan.net.nodes v ≡ Some node → w ≡ v → slice_get plan.net.nodes w ≡ Some other → node ≡ other
one-node plan v w node other there same e = some_inj _ _ (sym there ∙ (ap (slice_get plan.net.nodes) (sym same) ∙ e))

-- what stands at a node that was worked out
module _ (plan : Plan) (rows : Rows) (visits : List Visits) (outputs : List (List Stream)) (stands : List Stand) (v : ℕ) (node : Node) (there : slice_get plan.net.nodes v ≡ Some node) (r : IsReached plan rows visits outputs stands) where
  inside : v < length plan.net.nodes
  inside = slice_get_within plan.net.nodes v node there

  module _ (came : Visits) (left : List Stream) (k : IsKnown plan rows v node (OnTime came left)) where
    here : HasSequences (run_of plan rows) (record { visits = set visits v came; outputs = set outputs v left }) v node
    here =
        let in_visits : v < length visits = subst (λ m. v < m) (sym r.came) inside in
        let in_outputs : v < length outputs = subst (λ m. v < m) (sym r.left) inside in
        record {
          visits = get-set_same visits v came in_visits ∙ ap Some k.0;
          outputs = get-set_same outputs v left in_outputs ∙ ap Some k.1;
        }

    elsewhere : (w : ℕ) (other : Node) (at : Stand) → w ≢ v → Tells plan rows visits outputs w other at → Tells plan rows (set visits v came) (set outputs v left) w other at
    elsewhere w other Waiting d h = tt
    elsewhere w other Done d h = (
      record {
        visits = get-set_other visits v w came d ∙ h.0.visits;
        outputs = get-set_other outputs v w left d ∙ h.0.outputs;
      },
      h.1,
    )
    elsewhere w other (Crowded fault) d h = h
    elsewhere w other (Late fault) d h = h

    told : (w : ℕ) (other : Node) (at : Stand) → slice_get plan.net.nodes w ≡ Some other → slice_get (set stands v Done) w ≡ Some at → (w ≡ v) ⊎ (w ≢ v) → Tells plan rows (set visits v came) (set outputs v left) w other at
    told w other at e g (inl same) =
        let in_stands : v < length stands = subst (λ m. v < m) (sym r.stand) inside in
        let is-done : Done ≡ at = some_inj _ _ (sym (get-set_same stands v Done in_stands) ∙ (ap (slice_get (set stands v Done)) (sym same) ∙ g)) in
        subst (λ (p : ℕ × Node × Stand). Tells plan rows (set visits v came) (set outputs v left) p.0 p.1 p.2) (λ i. (sym same i, one-node plan v w node other there same e i, is-done i)) (here, k.3)
    told w other at e g (inr apart) = elsewhere w other at apart (r.told w other at e (sym (get-set_other stands v w Done apart) ∙ g))

    early : (u out : ℕ) (streams : List Stream) (stream : Stream) → slice_get (set outputs v left) u ≡ Some streams → slice_get streams out ≡ Some stream → (u ≡ v) ⊎ (u ≢ v) → IsEarlyStream stream
    early u out streams stream a b (inl same) =
        let in_outputs : v < length outputs = subst (λ m. v < m) (sym r.left) inside in
        let is-left : left ≡ streams = some_inj _ _ (sym (get-set_same outputs v left in_outputs) ∙ (ap (slice_get (set outputs v left)) (sym same) ∙ a)) in
        k.2 out stream (ap (λ (l : List Stream). slice_get l out) is-left ∙ b)
    early u out streams stream a b (inr apart) = r.early u out streams stream (sym (get-set_other outputs v u left apart) ∙ a) b

    on-time : IsReached plan rows (set visits v came) (set outputs v left) (set stands v Done)
    on-time = record {
      came = length-set visits v came ∙ r.came;
      left = length-set outputs v left ∙ r.left;
      stand = length-set stands v Done ∙ r.stand;
      told = λ w other at e g. told w other at e g (cases_eq w v);
      early = λ u out streams stream a b. early u out streams stream a b (cases_eq u v);
    }

  -- where a fault is put
  refused : (stand : Stand) → Tells plan rows visits outputs v node stand → IsReached plan rows visits outputs (set stands v stand)
  refused stand k =
      record {
        came = r.came;
        left = r.left;
        stand = length-set stands v stand ∙ r.stand;
        told = λ w other at e g. at_fault w other at e g (cases_eq w v);
        early = r.early;
      }
    where
      at_fault : (w : ℕ) (other : Node) (at : Stand) → slice_get plan.net.nodes w ≡ Some other → slice_get (set stands v stand) w ≡ Some at → (w ≡ v) ⊎ (w ≢ v) → Tells plan rows visits outputs w other at
      at_fault w other at e g (inl same) =
          let in_stands : v < length stands = subst (λ m. v < m) (sym r.stand) inside in
          let is-it : stand ≡ at = some_inj _ _ (sym (get-set_same stands v stand in_stands) ∙ (ap (slice_get (set stands v stand)) (sym same) ∙ g)) in
          subst (λ (p : ℕ × Node × Stand). Tells plan rows visits outputs p.0 p.1 p.2) (λ i. (sym same i, one-node plan v w node other there same e i, is-it i)) k
      at_fault w other at e g (inr apart) = r.told w other at e (sym (get-set_other stands v w stand apart) ∙ g)

-- a node worked out that is put down keeps what is reached
put-ending : (plan : Plan) (rows : Rows) (v : ℕ) (node : Node) (ending : Ending) (visits visits' : List Visits) (outputs outputs' : List (List Stream)) (stands stands' : List Stand) → slice_get plan.net.nodes v ≡ Some node → IsReached plan rows visits outputs stands → IsKnown plan rows v node ending →
    IsEndPut v ending visits outputs stands visits' outputs' stands' → IsReached plan rows visits' outputs' stands'
put-ending plan rows v node (OnTime came left) visits visits' outputs outputs' stands stands' there r k h =
    subst (λ (p : List Visits × List (List Stream) × List Stand). IsReached plan rows p.0 p.1 p.2) (λ i. (sym h.0 i, sym h.1 i, sym h.2 i)) (on-time plan rows visits outputs stands v node there r came left k)
put-ending plan rows v node (TooMany fault) visits visits' outputs outputs' stands stands' there r k h =
    subst (λ (p : List Visits × List (List Stream) × List Stand). IsReached plan rows p.0 p.1 p.2) (λ i. (sym h.0 i, sym h.1 i, sym h.2 i)) (refused plan rows visits outputs stands v node there r (Crowded fault) k)
put-ending plan rows v node (TooLate fault) visits visits' outputs outputs' stands stands' there r k h =
    subst (λ (p : List Visits × List (List Stream) × List Stand). IsReached plan rows p.0 p.1 p.2) (λ i. (sym h.0 i, sym h.1 i, sym h.2 i)) (refused plan rows visits outputs stands v node there r (Late fault) k)

pub put-keeps : (plan : Plan) (rows : Rows) (node_result : NodeResult) (visits visits' : List Visits) (outputs outputs' : List (List Stream)) (stands stands' : List Stand) → IsReached plan rows visits outputs stands → IsWorkedOut plan rows node_result →
    IsPut node_result visits outputs stands visits' outputs' stands' → IsReached plan rows visits' outputs' stands'
put-keeps plan rows node_result visits visits' outputs outputs' stands stands' r w h = put-ending plan rows node_result.number w.0 node_result.ending visits visits' outputs outputs' stands stands' w.1 r w.2 h
