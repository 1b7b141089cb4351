-- No departure of a run passes the latest that there may be, node by node in the order of ranks.
use Rattle.mq_base.proofs.lemmas.Each.{Each-weaker}
use Rattle.mq_base.proofs.lemmas.Lists.{get-map}
use Rattle.mq_core.proofs.lemmas.Plans.{ranked-few}
use Rattle.mq_core.specs.Came.{came_of}
use Rattle.std.proofs.Common.{◌≡◌, ◌⊎◌, inl, inr, ℕ, zero, suc, ◌+◌, ◌*◌, ◌^◌, ◌<◌, ◌≤◌, Bool, true, false, eqb, List, [], ◌∷◌, length, take, Option, Some, None, sym, refl, ap, ◌∙◌, subst, arith, eqb-true, le-ltb}
use Rattle.std.proofs.Math.Nat.{mul-le-mul_right}
use Rattle.std.proofs.lemmas.Bool.{cases_Bool, cases_lt}
use Rattle.std.proofs.lemmas.List.{length-map}
use Rattle.std.proofs.lemmas.List.Elements.{recursion_from_All}
use Rattle.std.specs.Prelude.{◌||◌, slice_get}
use Rattle.std.specs.List.{AllByRecursion as Each, zip}
use Rattle.mq_core.specs.Asked.{HasDemands}
use Rattle.mq_core.specs.SequenceLaws.{ArrivalsAreStreams, JobsAreRows, NoNodeCopies, NodesAreSequences, VisitsAreFew, arrives_of, jobs_of}
use Rattle.mq_core.specs.Sequences.{sequence_fates, sequence_late_from, sequence_refusal}
use Rattle.mq_core.specs.Local.{Local}
use Rattle.mq_core.specs.Machine.{Station, Visit}
use Rattle.mq_core.specs.NetworkRun.{RunsAreOfNetworks}
use Rattle.mq_core.specs.NumberLaws.{IsFineBelow, RefusalIsNone}
use Rattle.mq_core.specs.PlanLaws.{NodesAreInLimits, OrdersRank, RowsTellDemands}
use Rattle.mq_core.specs.Results.{Late, first_of, most_visits, refusal_by, stream_from}
use Rattle.mq_core.specs.StandardTable.{run_of}
use Rattle.mq_core.specs.Streams.{pairs_of}
use Rattle.mq_core.specs.Theorems.{IsReadFor}
use Rattle.mq_core.specs.Wiring.{has, is_source_kind, outputs_read}
use Rattle.mq_core.specs.declared.model.Fate.{Fate}
use Rattle.mq_core.specs.declared.model.Fate.TheVariants.{Departs, Held, Lost}
use Rattle.mq_core.specs.declared.model.Input.{Input}
use Rattle.mq_core.specs.declared.model.Node.{Node}
use Rattle.mq_core.specs.declared.model.Plan.{Plan}
use Rattle.mq_core.specs.declared.model.Rows.{Rows}
use Rattle.mq_core.specs.declared.model.Stream.{Stream}
use Rattle.mq_core.specs.Bounded.{DeparturesAreBounded}
use Rattle.mq_core.proofs.Bounded.BoundedArrivals.{PairsBy, from-zip, order-by, reads-by, rows-by, zip-by}
use Rattle.mq_core.proofs.Bounded.BoundedStations.{AreBy, LeaveBy, LeavesBy, by-later}
use Rattle.mq_core.proofs.Sequences.ArrivalTable.{arrivals_of}

-- where a node stands among the first so many
record IsAt (order : List ℕ) (rank node : ℕ) : Type 0 where
  index : ℕ
  before : index < rank
  at : slice_get order index ≡ Some node

has-at : (order : List ℕ) (rank node : ℕ) → has (take rank order) node ≡ true → IsAt order rank node
has-at [] zero node h = absurd cc
has-at [] (suc rank) node h = absurd cc
has-at (v ∷ order) zero node h = absurd cc
has-at (v ∷ order) (suc rank) node h = go (eqb v node) refl h (has-at order rank node)
  where
    go : (b : Bool) → eqb v node ≡ b → (b || has (take rank order) node) ≡ true → (has (take rank order) node ≡ true → IsAt order rank node) → IsAt (v ∷ order) (suc rank) node
    go true e k ih = record { index = 0; before = omega arith; at = ap Some (eqb-true v node e) }
    go false e k ih = let i = ih k in record { index = suc i.index; before = let l = i.before in omega arith; at = i.at }

-- a ranking has no more nodes than there are
order-few : (plan : Plan) → length plan.order ≤ length plan.net.nodes
order-few plan = let few = ranked-few (length plan.net.nodes) plan.net.nodes [] in let same = ap length plan.ranked in omega arith

leave-later : (limit later : ℕ) → limit ≤ later → (fates : List Fate) → LeaveBy limit fates → LeaveBy later fates
leave-later limit later l fates h = Each-weaker (LeavesBy limit) (LeavesBy later) go fates h
  where
    go : (fate : Fate) → LeavesBy limit fate → LeavesBy later fate
    go (Departs time) k = omega arith
    go Lost k = tt
    go Held k = tt

none-late : (bound node position : ℕ) (fates : List Fate) → LeaveBy bound fates → first_of (sequence_late_from bound node position fates) ≡ None
none-late bound node position [] h = refl
none-late bound node position (Lost ∷ fates) h = none-late bound node (suc position) fates h.1
none-late bound node position (Held ∷ fates) h = none-late bound node (suc position) fates h.1
none-late bound node position (Departs time ∷ fates) h = rw (le-ltb bound time h.0) (none-late bound node (suc position) fates h.1)

-- the laws of runs that the bound rests on
pub record RunLaws : Type 0 where
  pub arrivals : ArrivalsAreStreams
  pub sequences : NodesAreSequences
  pub demands : RowsTellDemands
  pub few : VisitsAreFew
  pub jobs : JobsAreRows
  pub limits : NodesAreInLimits
  pub networks : RunsAreOfNetworks
  pub none : RefusalIsNone
  pub ranks : OrdersRank

module _ (laws : RunLaws) (plan : Plan) (rows : Rows) (read : IsReadFor plan.net rows) (single : NoNodeCopies plan.net) (last : ℕ) (early : AreBy last rows.time) where
  abbrev station : ℕ → Station Local
  station v = (run_of plan rows).stations v

  abbrev jobs_at : ℕ → List ℕ
  jobs_at v = jobs_of (station v).visits

  abbrev arrives_at : ℕ → List ℕ
  arrives_at v = arrives_of (station v).visits

  -- what the jobs add at a node at most
  abbrev added : ℕ
  added = length rows.time * 2 ^ 39

  -- the jobs leave a node, and pass its outputs, by this time
  record IsBy (v : ℕ) (node : Node) (limit : ℕ) : Type 0 where
    fates : LeaveBy limit (sequence_fates rows node.kind (came_of (length node.inputs) (station v).visits))
    streams : (out : ℕ) → AreBy limit (stream_from (station v) out).time

  by-weaker : (v : ℕ) (node : Node) (limit later : ℕ) → limit ≤ later → IsBy v node limit → IsBy v node later
  by-weaker v node limit later l h =
      record {
        fates = leave-later limit later l (sequence_fates rows node.kind (came_of (length node.inputs) (station v).visits)) h.fates;
        streams = λ out. by-later limit later (stream_from (station v) out).time l (h.streams out);
      }

  -- where the jobs come to a node by a time
  node-by : (v : ℕ) (node : Node) (limit top : ℕ) → slice_get plan.net.nodes v ≡ Some node → top + added ≤ limit → AreBy top (arrives_at v) → IsBy v node limit
  node-by v node limit top here room came =
      record {
        fates = fates;
        streams = λ out.
            subst (λ (s : Stream). AreBy limit s.time) (sym ((laws.sequences plan rows read v node here).stream out))
            ((arrivals_of rows node.kind).streamed (came_of (length node.inputs) (station v).visits) limit out (by-later top limit (arrives_at v) (omega arith) came) fates);
      }
    where
      told : Each (λ job. HasDemands rows node.kind job) (jobs_at v)
      told =
          Each-weaker (λ job. job < length rows.time) (λ job. HasDemands rows node.kind job)
          (λ job l. laws.demands plan.net rows read job (subst (λ n. job < n) read.times l) node.kind (laws.limits plan v node here).kind) (jobs_at v) (laws.jobs plan rows v)

      fates : LeaveBy limit (sequence_fates rows node.kind (came_of (length node.inputs) (station v).visits))
      fates =
          let few = laws.few plan rows read single v in
          let many = length-map (station v).visits (λ (x : Visit). x.arrive) in
          (arrivals_of rows node.kind).bounded (came_of (length node.inputs) (station v).visits) limit top (length plan.net.columns) (laws.limits plan v node here).kind told (omega arith) came

  even : (v : ℕ) → length (jobs_at v) ≡ length (arrives_at v)
  even v = length-map (station v).visits (λ (x : Visit). x.job) ∙ sym (length-map (station v).visits (λ (x : Visit). x.arrive))

  -- what the nodes of lower ranks let out, comes to a node of this rank
  arrives-by : (rank v : ℕ) (node : Node) (top : ℕ) → last ≤ top → slice_get plan.order rank ≡ Some v → slice_get plan.net.nodes v ≡ Some node →
      ((r u : ℕ) (n : Node) → r < rank → slice_get plan.order r ≡ Some u → slice_get plan.net.nodes u ≡ Some n → IsBy u n top) → AreBy top (arrives_at v)
  arrives-by rank v node top l index here before = from-zip top (arrives_at v) (jobs_at v) (even v) (go (cases_Bool (is_source_kind node.kind)))
    where
      read-by : (port : ℕ) (input : Input) → slice_get node.inputs port ≡ Some input → PairsBy top (pairs_of (stream_from (station input.node) input.out))
      read-by port input e =
          let names = (laws.limits plan v node here).reads port input e in
          let reads = (laws.ranks plan rank v index).reads port (input.node, input.out) (ap (λ o. slice_get (outputs_read o) port) here ∙ get-map {Y = ℕ × ℕ} (λ (i : Input). (i.node, i.out)) node.inputs port input e) in
          let at = has-at plan.order rank input.node reads in
          let stream = stream_from (station input.node) input.out in
          zip-by top stream.time stream.job ((before at.index input.node names.node at.before at.at names.there).streams input.out)

      go : (is_source_kind node.kind ≡ true) ⊎ (is_source_kind node.kind ≡ false) → PairsBy top (zip (arrives_at v) (jobs_at v))
      go (inl source) =
          subst (PairsBy top) (sym ((laws.arrivals plan rows read v node here).source source))
          (order-by top _ (rows-by top v 0 rows.source rows.time (by-later last top rows.time l early)))
      go (inr other) =
          subst (PairsBy top) (sym ((laws.arrivals plan rows read v node here).other other))
          (order-by top _ (reads-by top _ node.inputs read-by))

  -- each of the first so many ranks adds what the jobs add at a node
  abbrev RanksBy : ℕ → Type 0
  RanksBy rank = (r v : ℕ) (node : Node) → r < rank → slice_get plan.order r ≡ Some v → slice_get plan.net.nodes v ≡ Some node → IsBy v node (last + rank * added)

  ranks-by : (rank : ℕ) → RanksBy rank
  ranks-by zero r v node l index here = absurd (omega arith)
  ranks-by (suc rank) r v node l index here = go (cases_lt r rank) (ranks-by rank)
    where
      go : (r < rank) ⊎ (rank ≤ r) → RanksBy rank → IsBy v node (last + suc rank * added)
      go (inl k) before = by-weaker v node (last + rank * added) (last + suc rank * added) (omega arith) (before r v node k index here)
      go (inr k) before =
          let same : r ≡ rank = omega arith in
          node-by v node (last + suc rank * added) (last + rank * added) here (omega arith)
          (arrives-by rank v node (last + rank * added) (omega arith) (subst (λ n. slice_get plan.order n ≡ Some v) same index) here before)

  fine : last + length plan.net.nodes * added ≤ plan.net.bound → IsFineBelow plan rows (length plan.order)
  fine room r v node l index here =
      let few = mul-le-mul_right added (order-few plan) in
      let by = by-weaker v node (last + length plan.order * added) plan.net.bound (omega arith) (ranks-by (length plan.order) r v node l index here) in
      let late = none-late plan.net.bound v 0 (sequence_fates rows node.kind (came_of (length node.inputs) (station v).visits)) by.fates in
      ap (sequence_refusal plan.net.bound v) (laws.sequences plan rows read v node here).visits
      ∙ none-refused v (length (jobs_at v)) _ (many v) late
    where
      -- a job visits a node at most once
      many : (u : ℕ) → length (jobs_at u) ≤ most_visits
      many u =
          let few = laws.few plan rows read single u in
          let size = length-map (station u).visits (λ (x : Visit). x.job) in
          let count = read.count in
          let times = read.times in
          omega arith

      none-refused : (node count : ℕ) (late : Option Late) → count ≤ most_visits → late ≡ None → refusal_by node count late ≡ None
      none-refused node count late l none = rw (le-ltb most_visits count l, none) refl

pub departures-bounded : RunLaws → DeparturesAreBounded
departures-bounded laws plan rows last read single early room =
    let none = laws.none plan rows read (fine laws plan rows read single last (recursion_from_All (λ time. time ≤ last) rows.time early) room) in
    (none, sym (laws.networks plan rows).1 ∙ none)
