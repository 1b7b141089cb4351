-- What is told of the nodes of a wave, and of all nodes at the end.
use Rattle.std.proofs.Common.{◌≡◌, ℕ, zero, suc, ◌+◌, ◌<◌, ◌≤◌, ◌⊎◌, inl, inr, Bool, true, false, List, [], ◌∷◌, ◌++◌, get_or, length, length-append, Some, refl, sym, ap, ◌∙◌, subst, arith}
use Rattle.std.specs.Prelude.{◌==◌, ◌&&◌, ◌||◌, slice_get, slice_index_or}
use Rattle.std.specs.List.{AllByRecursion as Each, list_any}
use Rattle.std.proofs.lemmas.Bool.{cases_lt}
use Rattle.std.proofs.lemmas.Bool.Decides.{nat_tests}
use Rattle.std.proofs.lemmas.List.{length-map}
use Rattle.std.proofs.lemmas.Option.{slice_get-get_or}
use Rattle.mq_base.proofs.lemmas.Each.{Each-append}
use Rattle.mq_base.proofs.lemmas.Lists.{get-some, some_inj}
use Rattle.mq_core.specs.Results.{visits_of}
use Rattle.mq_core.specs.Sound.{outputs_in}
use Rattle.mq_core.specs.StandardTable.{run_of}
use Rattle.mq_core.specs.Theorems.{IsReadFor}
use Rattle.mq_core.specs.declared.model.Input.{Input}
use Rattle.mq_core.specs.declared.model.Kind.{Kind}
use Rattle.mq_core.specs.declared.model.Node.{Node}
use Rattle.mq_core.specs.declared.model.Plan.{Plan}
use Rattle.mq_core.specs.declared.model.Rows.{Rows}
use Rattle.mq_core.specs.declared.model.Stream.{Stream}
use Rattle.mq_core.specs.declared.model.Visits.{Visits}
use Rattle.mq_counts.proofs.Endings.{streams-leave}
use Rattle.mq_counts.proofs.Lists.{each-has, pushed-at}
use Rattle.mq_counts.specs.Counts.{AreCountable, AreCountsOf, AreNodeCounts, IsCountAt, IsCountOf}
use Rattle.mq_counts.specs.Seen.{streams_in, visits_in}
use Rattle.mq_counts.specs.declared.counts.NodeSequences.{NodeSequences}
use Rattle.mq_counts.specs.declared.counts.NodeCount.{NodeCount}
use Rattle.mq_exits.proofs.Known.{fine-few}
use Rattle.mq_exits.specs.Results.{IsKnown, IsWorkedOut}
use Rattle.mq_exits.specs.declared.working.Ending.{Ending}
use Rattle.mq_exits.specs.declared.working.Ending.TheVariants.{OnTime, TooMany, TooLate}
use Rattle.mq_exits.specs.declared.working.NodeResult.{NodeResult}
use Rattle.mq_stats.specs.Numbers.{AreLeaving, AreVisits}
use Rattle.mq_stats.specs.RunNumbers.{RunsGiveStreams, RunsGiveVisits}
use Rattle.mq_crew.specs.Crew.{AreAll}
use Rattle.mq_crew.proofs.lemmas.Groups.{all-last, append-at, append-before}
use Rattle.mq_engine.specs.Counting.{AreResultSequences, AreSequencesAt, AreTold, AreWaveSequences, IsCounting, IsReadBy, IsToldAt, IsToldIn, IsToldOf, handed_on, reads_some}
use Rattle.mq_engine.specs.Progress.{AreWorkedOut, is_waiting}
use Rattle.mq_engine.specs.declared.progress.Stand.{Stand}
use Rattle.mq_engine.specs.declared.progress.Stand.TheVariants.{Waiting, Done}
use Rattle.mq_engine.specs.declared.told.ToldEnding.TheVariants.{Told}

-- nodes that ended on time
module _ (gives : RunsGiveVisits) (leaves : RunsGiveStreams) (plan : Plan) (rows : Rows) (read : IsReadFor plan.net rows) (v : ℕ) (node : Node) (there : slice_get plan.net.nodes v ≡ Some node) (came : Visits) (left : List Stream) (k : IsKnown plan rows v node (OnTime came left)) where
  few : length ((run_of plan rows).stations v).visits ≤ 1048576
  few =
      let end = (run_of plan rows).stations v in
      let most = fine-few plan.net.bound v (visits_of node.kind end) k.3 in
      let many : length (visits_of node.kind end).job ≡ length end.visits = length-map end.visits _ in
      omega arith

  pub known-visits : AreVisits rows node.kind came
  known-visits = subst (AreVisits rows node.kind) (sym k.0) (gives plan rows read v node there few)

  pub known-streams : Each (AreLeaving rows) left
  known-streams = subst (Each (AreLeaving rows)) (sym k.1) (streams-leave plan rows v (outputs_in node.kind) (leaves plan rows read v node there few))

-- Those of none, and of one more.
pub sequences-none : (plan : Plan) (rows : Rows) (results : List NodeResult) (all : List NodeSequences) → all ≡ [] → AreWaveSequences plan rows results 0 all
sequences-none plan rows results all none = rw none (record { len = refl; countable = tt; each = λ i sequences here node_result there. absurd cc })

pub sequences-more : (plan : Plan) (rows : Rows) (results : List NodeResult) (i : ℕ) (all all' : List NodeSequences) (node_result : NodeResult) (sequences : NodeSequences) → AreWaveSequences plan rows results i all → slice_get results i ≡ Some node_result → AreCountable rows sequences → AreResultSequences plan node_result sequences → all' ≡ all ++ sequences ∷ [] → AreWaveSequences plan rows results (i + 1) all'
sequences-more plan rows results i all all' node_result sequences so_far here own of grown =
    let one = length-append all (sequences ∷ []) in
    let len = so_far.len in
    let longer = ap length grown in
    record {
      len = omega arith;
      countable = subst (Each (AreCountable rows)) (sym grown) (Each-append (AreCountable rows) all (sequences ∷ []) so_far.countable (own, tt));
      each = pushed-at (λ j (x : NodeSequences). (r : NodeResult) → slice_get results j ≡ Some r → AreResultSequences plan r x) i all all' sequences so_far.len so_far.each
          (λ r there. subst (λ (x : NodeResult). AreResultSequences plan x sequences) (some_inj node_result r (sym here ∙ there)) of) grown;
    }

pub sequences-all : (plan : Plan) (rows : Rows) (results : List NodeResult) (i : ℕ) (all : List NodeSequences) → AreWaveSequences plan rows results i all → i ≡ length results → AreWaveSequences plan rows results (length results) all
sequences-all plan rows results i all so_far e = subst (λ n. AreWaveSequences plan rows results n all) e so_far

-- what is told of them is told of the nodes of the run
told-at : (plan : Plan) (rows : Rows) (form v : ℕ) (node : Node) (ending : Ending) (sequences : NodeSequences) (count : NodeCount) → slice_get plan.net.nodes v ≡ Some node → IsKnown plan rows v node ending → AreSequencesAt plan v ending sequences →
    IsCountOf plan.net.nodes rows form sequences.number sequences.kind.now (visits_in sequences.visits) (streams_in sequences.streams) count → IsToldOf plan rows form v ending count
told-at plan rows form v node (OnTime came left) sequences count there k of is = λ other here.
    let same : node ≡ other = some_inj node other (sym there ∙ here) in
    subst (λ (n : Node). IsCountAt plan rows form v n count) same
    (subst (λ (p : ℕ × Kind × Visits × List Stream). IsCountOf plan.net.nodes rows form p.0 p.1 p.2 p.3 count) (λ i. (of.0 i, of.1 node there i, (of.2 ∙ k.0) i, (of.3 ∙ k.1) i)) is)
told-at plan rows form v node (TooMany fault) sequences count there k of is = tt
told-at plan rows form v node (TooLate fault) sequences count there k of is = tt

pub told-all : (plan : Plan) (rows : Rows) (form : ℕ) (results : List NodeResult) (all : List NodeSequences) (counts : List NodeCount) → AreWorkedOut plan rows results → AreWaveSequences plan rows results (length results) all → AreCountsOf plan.net.nodes rows form all counts → AreTold plan rows form results counts
told-all plan rows form results all counts known sequences are = record {
  len = are.len ∙ sequences.len;
  each = λ b d l node_result there.
      let inside : b < length all = subst (λ (n : ℕ). b < n) (sym sequences.len) l in
      let its = get-some all b inside in
      let own = each-has (IsWorkedOut plan rows) results b node_result known there in
      told-at plan rows form node_result.number own.0 node_result.ending its.0 (slice_index_or counts b d) own.1 own.2 (sequences.each b its.0 its.1 node_result there) (are.each b d inside its.0 its.1);
}

-- where all nodes are done
pub counts-done : (plan : Plan) (rows : Rows) (form : ℕ) (counts : List NodeCount) (outputs : List (List Stream)) (stands : List Stand) → IsCounting plan rows form counts outputs stands → ((v : ℕ) (node : Node) → slice_get plan.net.nodes v ≡ Some node → slice_get stands v ≡ Some Done) →
    AreNodeCounts plan rows form counts
counts-done plan rows form counts outputs stands r done = record { len = r.came; each = λ v node count there here. (r.told v node Done there (done v node there)).0 count here }

-- Readers. One that passes a test is among those that any does.
any-at : {X : Type 0} (test : X → Bool) (xs : List X) (k : ℕ) (x : X) → slice_get xs k ≡ Some x → test x ≡ true → list_any test xs ≡ true
any-at test [] k x h t = absurd cc
any-at test (y ∷ ys) zero x h t = ap (λ b. b || list_any test ys) (ap test (some_inj y x h) ∙ t)
any-at test (y ∷ ys) (suc k) x h t = ap (λ b. test y || b) (any-at test ys k x h t) ∙ or-true (test y)
  where
    or-true : (b : Bool) → (b || true) ≡ true
    or-true true = refl
    or-true false = refl

same-node : (a b : ℕ) → a ≡ b → (a == b) ≡ true
same-node a b e = grind (arith, nat_tests)

-- one node more that doesn't wait, or reads nothing of the node
pub unread-more : (nodes : List Node) (stands : List Stand) (u v : ℕ) (node : Node) (stand : Stand) → slice_get nodes v ≡ Some node → slice_get stands v ≡ Some stand → (is_waiting stand && list_any (λ (i : Input). i.node == u) node.inputs) ≡ false →
    ((w port : ℕ) (other : Node) (input : Input) → w < v → slice_get nodes w ≡ Some other → slice_get stands w ≡ Some Waiting → slice_get other.inputs port ≡ Some input → input.node ≡ u → ⊥) →
    (w port : ℕ) (other : Node) (input : Input) → w < v + 1 → slice_get nodes w ≡ Some other → slice_get stands w ≡ Some Waiting → slice_get other.inputs port ≡ Some input → input.node ≡ u → ⊥
unread-more nodes stands u v node stand there at fails before w port other input l a waits b e = go (cases_lt w v)
  where
    go : (w < v) ⊎ (v ≤ w) → ⊥
    go (inl less) = before w port other input less a waits b e
    go (inr more) =
        let same : w ≡ v = omega arith in
        let is-node : other ≡ node = some_inj _ _ (sym a ∙ (ap (slice_get nodes) same ∙ there)) in
        let is-stand : Waiting ≡ stand = some_inj _ _ (sym waits ∙ (ap (slice_get stands) same ∙ at)) in
        let any = any-at (λ (i : Input). i.node == u) node.inputs port input (ap (λ (n : Node). slice_get n.inputs port) (sym is-node) ∙ b) (same-node input.node u e) in
        let both : (is_waiting stand && list_any (λ (i : Input). i.node == u) node.inputs) ≡ true = (λ k. is_waiting (sym is-stand k) && any k) in
        absurd (let clash = sym both ∙ fails in cc)

-- the same, where an answer says so
pub unread-next : (nodes : List Node) (stands : List Stand) (u v : ℕ) (node : Node) (d : Stand) (inputs : List Input) (answer : Bool) → slice_get nodes v ≡ Some node → v < length stands → inputs ≡ node.inputs →
    answer ≡ (is_waiting (get_or stands v d) && list_any (λ (i : Input). i.node == u) inputs) → answer ≡ false →
    ((w port : ℕ) (other : Node) (input : Input) → w < v → slice_get nodes w ≡ Some other → slice_get stands w ≡ Some Waiting → slice_get other.inputs port ≡ Some input → input.node ≡ u → ⊥) →
    (w port : ℕ) (other : Node) (input : Input) → w < v + 1 → slice_get nodes w ≡ Some other → slice_get stands w ≡ Some Waiting → slice_get other.inputs port ≡ Some input → input.node ≡ u → ⊥
unread-next nodes stands u v node d inputs answer there l same is fails before =
    unread-more nodes stands u v node (get_or stands v d) there (slice_get-get_or stands v d l) (ap (λ (l : List Input). is_waiting (get_or stands v d) && list_any (λ (i : Input). i.node == u) l) (sym same) ∙ (sym is ∙ fails)) before

-- A node that ended of which this is told: what left it is handed on only where an input reads it.
unread : (plan : Plan) (v : ℕ) → reads_some plan.net.nodes v ≡ false → IsReadBy plan v → ⊥
unread plan v fails h =
    let any = any-at (λ (i : Input). i.node == v) h.node.inputs h.port h.input h.reads (same-node h.input.node v h.same) in
    let some = any-at (λ (node : Node). list_any (λ (i : Input). i.node == v) node.inputs) plan.net.nodes h.reader h.node h.there any in
    absurd (let clash = sym some ∙ fails in cc)

pub told-handed : (plan : Plan) (rows : Rows) (form v : ℕ) (node : Node) (came : Visits) (stream : Stream) (count : NodeCount) (read : Bool) → slice_get plan.net.nodes v ≡ Some node → IsKnown plan rows v node (OnTime came (stream ∷ [])) → IsToldOf plan rows form v (OnTime came (stream ∷ [])) count →
    read ≡ reads_some plan.net.nodes v → IsToldAt plan rows form v node (Told (handed_on read stream) count)
told-handed plan rows form v node came stream count true there k is e = (λ read. k.1, k.2, k.3, is node there)
told-handed plan rows form v node came stream count false there k is e = (λ read. absurd (unread plan v (sym e) read), λ out one here. absurd cc, k.3, is node there)

-- what is told of the last of these nodes, and of the others
pub told-last : (plan : Plan) (rows : Rows) (form : ℕ) (rest : List NodeResult) (node_result : NodeResult) (counts others : List NodeCount) (count : NodeCount) → AreTold plan rows form (rest ++ node_result ∷ []) counts → counts ≡ others ++ count ∷ [] →
    IsToldOf plan rows form node_result.number node_result.ending count × AreTold plan rows form rest others
told-last plan rows form rest node_result counts others count all e =
    let is = IsToldIn plan rows form (rest ++ node_result ∷ []) in
    let more = length-append rest (node_result ∷ []) in
    let last = all-last is (length rest) counts others count e (subst (λ n. AreAll is n counts) (let n : length (rest ++ node_result ∷ []) ≡ suc (length rest) = omega arith in n) all) in (
      last.0 node_result (append-at rest node_result (length rest) refl),
      record {
        len = last.1.len;
        each = λ b d l one there. last.1.each b d l one (append-before rest node_result one b there);
      },
    )
