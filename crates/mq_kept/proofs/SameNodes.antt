-- A node whose visits and streams are the same in two runs of a plan.
use Rattle.std.proofs.Common.{◌≡◌, ℕ, zero, suc, ◌+◌, ◌<◌, ◌≤◌, ◌⊎◌, inl, inr, true, false, List, [], ◌∷◌, ◌++◌, length, map, Some, None, refl, sym, ap, ◌∙◌, subst, arith}
use Rattle.std.specs.Prelude.{slice_get}
use Rattle.std.proofs.lemmas.Bool.{cases_lt}
use Rattle.mq_base.proofs.lemmas.Lists.{some_inj}
use Rattle.mq_stations.proofs.lemmas.Leaves.{once-leaves}
use Rattle.mq_alike.specs.Again.{Coming, IsUnchanged}
use Rattle.mq_core.specs.Alone.{came}
use Rattle.mq_core.specs.Came.{Came, came_by, came_in, came_of}
use Rattle.mq_core.specs.Laws.{in_order_of}
use Rattle.mq_core.specs.Local.{Local}
use Rattle.mq_core.specs.Machine.{State, Visit}
use Rattle.mq_core.specs.Results.{stream_from, visits_of}
use Rattle.mq_core.specs.RunLaws.{HasSequences}
use Rattle.mq_core.specs.SequenceLaws.{arrives_of, jobs_of, read_from, sends_once}
use Rattle.mq_core.specs.Sequences.{sequence_refusal, sequence_stream, sequence_visits, streams_below}
use Rattle.mq_core.specs.Sound.{outputs_in}
use Rattle.mq_core.specs.StandardTable.{run_of}
use Rattle.mq_core.specs.Streams.{by_port}
use Rattle.mq_core.specs.Theorems.{IsReadFor}
use Rattle.mq_core.specs.declared.model.Input.{Input}
use Rattle.mq_core.specs.declared.model.Kind.{Kind}
use Rattle.mq_core.specs.declared.model.Kind.TheVariants.{Delay, Fork, ForkJoin, Join, Loss, Server, Source, Split, Tandem, Trunk}
use Rattle.mq_core.specs.declared.model.Node.{Node}
use Rattle.mq_core.specs.declared.model.Plan.{Plan}
use Rattle.mq_core.specs.declared.model.Rows.{Rows}
use Rattle.mq_core.specs.declared.model.Stream.{Stream}
use Rattle.mq_core.specs.declared.model.Visits.{Visits}
use Rattle.mq_redo.specs.Kept.{coming_as}
use Rattle.mq_stations.specs.Leaving.{IsEarlyStream}
use Rattle.mq_exits.specs.Loads.{IsArrived, IsLoaded}
use Rattle.mq_exits.specs.Results.{IsKnown}
use Rattle.mq_exits.specs.declared.working.Ending.TheVariants.{OnTime}
use Rattle.mq_kept.specs.NodeRuns.{coming_to}
use Rattle.mq_engine.specs.CoreLaws.{CoreLaws}
use Rattle.mq_engine.proofs.Gathers.{apart-other}

-- the visits and the streams of a node of this kind are the same
pub record IsSameAt (plan : Plan) (old new : Rows) (v : ℕ) (kind : Kind) : Type 0 where
  pub visits : visits_of kind ((run_of plan old).stations v) ≡ visits_of kind ((run_of plan new).stations v)
  pub stream : (out : ℕ) → stream_from ((run_of plan old).stations v) out ≡ stream_from ((run_of plan new).stations v) out

-- so what is known of it stays
below-same : (end end' : State Local) (v outs : ℕ) → ((out : ℕ) → stream_from (end.stations v) out ≡ stream_from (end'.stations v) out) → streams_below end v outs ≡ streams_below end' v outs
below-same end end' v zero h = refl
below-same end end' v (suc outs) h = (λ i. below-same end end' v outs h i ++ h outs i ∷ [])

pub known-stays : (plan : Plan) (old new : Rows) (v : ℕ) (node : Node) (visits : Visits) (streams : List Stream) → IsSameAt plan old new v node.kind → IsKnown plan old v node (OnTime visits streams) → IsKnown plan new v node (OnTime visits streams)
known-stays plan old new v node visits streams s k = (
  k.0 ∙ s.visits,
  k.1 ∙ below-same (run_of plan old) (run_of plan new) v (outputs_in node.kind) s.stream,
  k.2,
  ap (sequence_refusal plan.net.bound v) (sym s.visits) ∙ k.3,
)

-- what a node keeps of a run is known
pub has-known : (plan : Plan) (rows : Rows) (v : ℕ) (node : Node) (visits : List Visits) (outputs : List (List Stream)) (came : Visits) (left : List Stream) → HasSequences (run_of plan rows) (record { visits = visits; outputs = outputs }) v node → slice_get visits v ≡ Some came → slice_get outputs v ≡ Some left →
    ((out : ℕ) (stream : Stream) → slice_get left out ≡ Some stream → IsEarlyStream stream) → sequence_refusal plan.net.bound v (visits_of node.kind ((run_of plan rows).stations v)) ≡ None → IsKnown plan rows v node (OnTime came left)
has-known plan rows v node visits outputs came left h a b early fine = (
  some_inj came _ (sym a ∙ h.visits),
  some_inj left _ (sym b ∙ h.outputs),
  early,
  fine,
)

-- what comes, with the port of each, is told by the triples of it
abbrev came_from : ℕ → List (ℕ × ℕ × ℕ) → Came
came_from ports triples = record { ports = ports; port = map (λ (p : ℕ × ℕ × ℕ). p.1) triples; job = map (λ (p : ℕ × ℕ × ℕ). p.2) triples; arrive = map (λ (p : ℕ × ℕ × ℕ). p.0) triples }

came-told : (ports : ℕ) (xs : List Visit) → came_of ports xs ≡ came_from ports (came xs)
came-told ports xs = (λ i. record { ports = ports; port = ports-told xs i; job = jobs-told xs i; arrive = times-told xs i })
  where
    ports-told : (xs : List Visit) → map (λ (x : Visit). x.port) xs ≡ map (λ (p : ℕ × ℕ × ℕ). p.1) (came xs)
    ports-told [] = refl
    ports-told (x ∷ xs) = ap (λ ys. x.port ∷ ys) (ports-told xs)

    jobs-told : (xs : List Visit) → map (λ (x : Visit). x.job) xs ≡ map (λ (p : ℕ × ℕ × ℕ). p.2) (came xs)
    jobs-told [] = refl
    jobs-told (x ∷ xs) = ap (λ ys. x.job ∷ ys) (jobs-told xs)

    times-told : (xs : List Visit) → map (λ (x : Visit). x.arrive) xs ≡ map (λ (p : ℕ × ℕ × ℕ). p.0) (came xs)
    times-told [] = refl
    times-told (x ∷ xs) = ap (λ ys. x.arrive ∷ ys) (times-told xs)

came-by : (ports : ℕ) (xs ys : List Visit) → came xs ≡ came ys → came_of ports xs ≡ came_of ports ys
came-by ports xs ys e = came-told ports xs ∙ (ap (came_from ports) e ∙ sym (came-told ports ys))

-- no row is looked at by a fork or a join
record IsRowFree (kind : Kind) (c : Came) : Type 0 where
  visits : (rows rows' : Rows) → sequence_visits rows kind c ≡ sequence_visits rows' kind c
  stream : (rows rows' : Rows) (out : ℕ) → sequence_stream rows kind c out ≡ sequence_stream rows' kind c out

row-free : (kind : Kind) (c : Came) → sends_once kind ≡ false → IsRowFree kind c
row-free Source c h = absurd cc
row-free (Server demand) c h = absurd cc
row-free (Delay demand) c h = absurd cc
row-free (Loss places demand) c h = absurd cc
row-free (Tandem stages) c h = absurd cc
row-free (ForkJoin branches) c h = absurd cc
row-free (Split route) c h = absurd cc
row-free (Fork outputs) c h = record { visits = λ rows rows'. refl; stream = λ rows rows' out. refl }
row-free Join c h = record { visits = λ rows rows'. refl; stream = λ rows rows' out. refl }
row-free (Trunk servers demand) c h = absurd cc

-- what ports read to which the same comes
pub reads-same : (end end' : State Local) (first : ℕ) (inputs : List Input) → ((port : ℕ) (input : Input) → slice_get inputs port ≡ Some input → stream_from (end.stations input.node) input.out ≡ stream_from (end'.stations input.node) input.out) → read_from end first inputs ≡ read_from end' first inputs
reads-same end end' first [] h = refl
reads-same end end' first (input ∷ inputs) h = (λ k. by_port first (h 0 input refl k) ++ reads-same end end' (suc first) inputs (λ port i e. h (suc port) i e) k)

-- A station: its sequences go by the jobs that come, when they come, and what they ask for.
module _ (laws : CoreLaws) (plan : Plan) (old new : Rows) (v : ℕ) (node : Node) (there : slice_get plan.net.nodes v ≡ Some node) (read : IsReadFor plan.net old) (read' : IsReadFor plan.net new) where
  abbrev olds : List Visit
  olds = ((run_of plan old).stations v).visits

  abbrev news : List Visit
  news = ((run_of plan new).stations v).visits

  abbrev was : Coming
  was = record { rows = old; job = jobs_of olds; arrive = arrives_of olds }

  abbrev is : Coming
  is = record { rows = new; job = jobs_of news; arrive = arrives_of news }

  pub whole-same : sends_once node.kind ≡ true → IsUnchanged node.kind was is → IsSameAt plan old new v node.kind
  whole-same once w =
      let before = laws.sequences plan old read v node there in
      let after = laws.sequences plan new read' v node there in
      let blind = laws.blind old node.kind (came_of (length node.inputs) olds) (once-leaves node.kind once) in
      let blind' = laws.blind new node.kind (came_of (length node.inputs) news) (once-leaves node.kind once) in
      record {
        visits = before.visits ∙ (blind.visits ∙ (w.visits ∙ sym (after.visits ∙ blind'.visits)));
        stream = λ out. before.stream out ∙ (blind.stream out ∙ (w.stream out ∙ sym (after.stream out ∙ blind'.stream out)));
      }

  -- A fork or a join: they go by what comes by each port, and by no row.
  pub came-same : sends_once node.kind ≡ false → came olds ≡ came news → IsSameAt plan old new v node.kind
  came-same apart e =
      let before = laws.sequences plan old read v node there in
      let after = laws.sequences plan new read' v node there in
      let ports = came-by (length node.inputs) olds news e in
      let free = row-free node.kind (came_of (length node.inputs) news) apart in
      record {
        visits = before.visits ∙ (ap (sequence_visits old node.kind) ports ∙ (free.visits old new ∙ sym after.visits));
        stream = λ out. before.stream out ∙ (ap (λ (c : Came). sequence_stream old node.kind c out) ports ∙ (free.stream old new out ∙ sym (after.stream out)));
      }

  -- so where each port reads the same as before
  pub apart-same : sends_once node.kind ≡ false → ((port : ℕ) (input : Input) → slice_get node.inputs port ≡ Some input → stream_from ((run_of plan old).stations input.node) input.out ≡ stream_from ((run_of plan new).stations input.node) input.out) →
      IsSameAt plan old new v node.kind
  apart-same apart same =
      let other = apart-other node.kind apart in
      came-same apart ((laws.arrivals plan old read v node there).ports other
      ∙ (ap (in_order_of (λ (p : ℕ × ℕ × ℕ). p.0)) (reads-same (run_of plan old) (run_of plan new) 0 node.inputs same) ∙ sym ((laws.arrivals plan new read' v node there).ports other)))

-- what comes to a station is what comes in the run
pub coming-is : (plan : Plan) (rows : Rows) (v : ℕ) (arrivals : Stream) → IsArrived plan rows v arrivals → coming_as rows arrivals ≡ coming_to plan rows v
coming-is plan rows v arrivals a = (λ i. record { rows = rows; job = a.job i; arrive = a.time i })

-- the visits of a station that was worked out are the sequences of what came
pub visits-by : (laws : CoreLaws) (plan : Plan) (rows : Rows) (v : ℕ) (arrivals : Stream) (visits : Visits) (streams : List Stream) → IsReadFor plan.net rows → (loaded : IsLoaded plan rows v arrivals) → IsKnown plan rows v loaded.node (OnTime visits streams) → visits ≡ sequence_visits rows loaded.node.kind (came_in arrivals)
visits-by laws plan rows v arrivals visits streams read loaded known =
    let node = loaded.node in
    let xs = ((run_of plan rows).stations v).visits in
    let a = loaded.came in
    known.0
    ∙ ((laws.sequences plan rows read v node loaded.there).visits
    ∙ ((laws.blind rows node.kind (came_of (length node.inputs) xs) (once-leaves node.kind loaded.once)).visits
    ∙ (λ k. sequence_visits rows node.kind (came_by (sym a.job k) (sym a.time k)))))

-- what holds of the ports so far, and of the next
pub ports-more : (holds : Input → Type 0) (inputs : List Input) (at : ℕ) (here : Input) → ((port : ℕ) (input : Input) → port < at → slice_get inputs port ≡ Some input → holds input) → slice_get inputs at ≡ Some here → holds here → (port : ℕ) (input : Input) → port < at + 1 → slice_get inputs port ≡ Some input → holds input
ports-more holds inputs at here before e it port input l g = go (cases_lt port at)
  where
    go : (port < at) ⊎ (at ≤ port) → holds input
    go (inl less) = before port input less g
    go (inr more) =
        let same : port ≡ at = omega arith in
        subst holds (some_inj here input (sym e ∙ (ap (slice_get inputs) (sym same) ∙ g))) it
