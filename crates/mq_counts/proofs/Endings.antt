-- What came to the nodes of a run and left them, and what is told of it.
use Rattle.std.proofs.Common.{◌≡◌, ℕ, zero, suc, ◌+◌, ◌-◌, ◌<◌, ◌≤◌, ◌++◌, List, [], ◌∷◌, Some, length, length-append, map, max, refl, sym, subst, ap, ◌∙◌, arith}
use Rattle.std.specs.Prelude.{fold, slice_get}
use Rattle.std.specs.List.{AllByRecursion as Each}
use Rattle.std.proofs.Math.Nat.{le-max_right}
use Rattle.std.proofs.lemmas.Option.{get_or_from_slice_get, slice_get_within}
use Rattle.mq_base.proofs.lemmas.Each.{Each-append}
use Rattle.mq_base.proofs.lemmas.Lists.{get-some, some_inj}
use Rattle.mq_core.specs.NumberLaws.{SpanIsSequences, TotalsAreSequences}
use Rattle.mq_core.specs.Results.{stream_from, totals_of, visits_of}
use Rattle.mq_core.specs.Sequences.{greatest_time, sequence_totals, streams_below, visits_by_node}
use Rattle.mq_core.specs.StandardTable.{run_of}
use Rattle.mq_core.specs.Theorems.{IsReadFor}
use Rattle.mq_core.specs.declared.model.Kind.{Kind}
use Rattle.mq_core.specs.declared.model.Node.{Node}
use Rattle.mq_core.specs.declared.model.Plan.{Plan}
use Rattle.mq_core.specs.declared.model.Rows.{Rows}
use Rattle.mq_core.specs.declared.model.Stream.{Stream}
use Rattle.mq_core.specs.declared.model.Visits.{Visits}
use Rattle.mq_counts.proofs.Lists.{pushed-at}
use Rattle.mq_counts.proofs.Staying.{above}
use Rattle.mq_counts.specs.Counts.{AreCountable, AreCounts, AreCountsOf, AreNodeCounts, IsCountAt, IsCountOf}
use Rattle.mq_counts.specs.Later.{HeldStayOn, held_on}
use Rattle.mq_counts.specs.Runs.{AreFirstSequences, AreSequencesOf}
use Rattle.mq_counts.specs.Seen.{streams_in, visits_in}
use Rattle.mq_counts.specs.declared.counts.Counts.{Counts}
use Rattle.mq_counts.specs.declared.counts.NodeSequences.{NodeSequences}
use Rattle.mq_counts.specs.declared.counts.NodeCount.{NodeCount}
use Rattle.mq_stats.specs.Lasts.{LastsAreGreatest}
use Rattle.mq_stats.specs.Numbers.{AreLeaving, totals_from}
use Rattle.mq_stats.specs.RunNumbers.{HasFewVisits, RunsGiveVisits}
use Rattle.mq_stats.specs.declared.tallies.NodeTotals.{NodeTotals}

-- what leaves a node by each output
pub streams-leave : (plan : Plan) (rows : Rows) (v outs : ℕ) → ((out : ℕ) → AreLeaving rows (stream_from ((run_of plan rows).stations v) out)) → Each (AreLeaving rows) (streams_below (run_of plan rows) v outs)
streams-leave plan rows v zero leave = tt
streams-leave plan rows v (suc outs) leave =
    Each-append (AreLeaving rows) (streams_below (run_of plan rows) v outs) (stream_from ((run_of plan rows).stations v) outs ∷ []) (streams-leave plan rows v outs leave) (leave outs, tt)

-- no node, one node more, and all nodes
pub sequences-none : (plan : Plan) (rows : Rows) (all : List NodeSequences) → all ≡ [] → AreFirstSequences plan rows 0 all
sequences-none plan rows all none = rw none (record { len = refl; countable = tt; each = λ v sequences here node there. absurd cc })

pub sequences-more : (plan : Plan) (rows : Rows) (v : ℕ) (all all' : List NodeSequences) (node : Node) (sequences : NodeSequences) → AreFirstSequences plan rows v all → slice_get plan.net.nodes v ≡ Some node → AreCountable rows sequences → AreSequencesOf plan rows v node sequences → all' ≡ all ++ sequences ∷ [] → AreFirstSequences plan rows (v + 1) all'
sequences-more plan rows v all all' node sequences so_far here own is grown =
    let one = length-append all (sequences ∷ []) in
    let len = so_far.len in
    let longer = ap length grown in
    record {
      len = omega arith;
      countable = subst (Each (AreCountable rows)) (sym grown) (Each-append (AreCountable rows) all (sequences ∷ []) so_far.countable (own, tt));
      each = pushed-at (λ u (x : NodeSequences). (n : Node) → slice_get plan.net.nodes u ≡ Some n → AreSequencesOf plan rows u n x) v all all' sequences so_far.len so_far.each
          (λ n there. subst (λ (m : Node). AreSequencesOf plan rows v m sequences) (some_inj node n (sym here ∙ there)) is) grown;
    }

pub sequences-all : (plan : Plan) (rows : Rows) (v : ℕ) (all : List NodeSequences) → AreFirstSequences plan rows v all → v ≡ length plan.net.nodes → AreFirstSequences plan rows (length plan.net.nodes) all
sequences-all plan rows v all so_far e = subst (λ n. AreFirstSequences plan rows n all) e so_far

-- what is told of them is told of the nodes of the run
pub node-counts : (plan : Plan) (rows : Rows) (form : ℕ) (all : List NodeSequences) (counts : List NodeCount) → AreFirstSequences plan rows (length plan.net.nodes) all → AreCountsOf plan.net.nodes rows form all counts → AreNodeCounts plan rows form counts
node-counts plan rows form all counts sequences are = record {
  len = are.len ∙ sequences.len;
  each = λ v node count there here.
      let inside : v < length all = subst (λ (n : ℕ). v < n) (sym sequences.len) (slice_get_within plan.net.nodes v node there) in
      let its = get-some all v inside in
      let of = sequences.each v its.0 its.1 node there in
      let is = subst (λ (c : NodeCount). IsCountOf plan.net.nodes rows form its.0.number its.0.kind.now (visits_in its.0.visits) (streams_in its.0.streams) c) (get_or_from_slice_get counts v count count here) (are.each v count inside its.0 its.1) in
      subst (λ (p : ℕ × Kind × Visits × List Stream). IsCountOf plan.net.nodes rows form p.0 p.1 p.2 p.3 count) (λ i. (of.number i, of.kind i, of.visits i, of.streams i)) is;
}

-- Totals. The last event at a node is no later than that of the run.
in-span : (plan : Plan) (rows : Rows) (first a v : ℕ) (nodes : List Node) (node : Node) → slice_get nodes v ≡ Some node →
    greatest_time (visits_of node.kind ((run_of plan rows).stations (first + v))) ≤ fold max a (map greatest_time (visits_by_node (run_of plan rows) first nodes))
in-span plan rows first a v [] node e = absurd cc
in-span plan rows first a zero (n ∷ nodes) node e =
    let own = greatest_time (visits_of n.kind ((run_of plan rows).stations first)) in
    let same : first + 0 ≡ first = omega arith in
    let is : node ≡ n = sym (some_inj n node e) in
    let here : greatest_time (visits_of node.kind ((run_of plan rows).stations (first + 0))) ≡ own = (λ k. greatest_time (visits_of (is k).kind ((run_of plan rows).stations (same k)))) in
    let rest = above (max a own) (map greatest_time (visits_by_node (run_of plan rows) (suc first) nodes)) in
    let right = le-max_right a own in
    omega arith
in-span plan rows first a (suc v) (n ∷ nodes) node e =
    let own = greatest_time (visits_of n.kind ((run_of plan rows).stations first)) in
    let next : first + suc v ≡ suc first + v = omega arith in
    subst (λ (w : ℕ). greatest_time (visits_of node.kind ((run_of plan rows).stations w)) ≤ fold max (max a own) (map greatest_time (visits_by_node (run_of plan rows) (suc first) nodes))) (sym next)
    (in-span plan rows (suc first) (max a own) v nodes node e)

module _ (plan : Plan) (rows : Rows) (read : IsReadFor plan.net rows) (form : ℕ) (counts : Counts) (are : AreCounts plan rows form counts) (v : ℕ) (node : Node) (count : NodeCount) (there : slice_get plan.net.nodes v ≡ Some node) (here : slice_get counts.nodes v ≡ Some count) where
  own : IsCountAt plan rows form v node count
  own = are.nodes.each v node count there here

  last-is : LastsAreGreatest → count.last ≡ greatest_time (visits_of node.kind ((run_of plan rows).stations v))
  last-is law = own.last ∙ sym (law plan rows read v node there)

  pub last-within : SpanIsSequences → LastsAreGreatest → count.last ≤ counts.span
  last-within spans law =
      let last = last-is law in
      let low = in-span plan rows 0 0 v plan.net.nodes node there in
      let zero-v : 0 + v ≡ v = omega arith in
      let same = ap (λ (w : ℕ). greatest_time (visits_of node.kind ((run_of plan rows).stations w))) zero-v in
      let clock = are.span ∙ spans plan rows read in
      omega arith

  pub totals-told : SpanIsSequences → LastsAreGreatest → TotalsAreSequences → RunsGiveVisits → HasFewVisits plan rows → HeldStayOn → (totals : NodeTotals) → totals_from totals ≡ held_on (counts.span - count.last) (totals_from count.totals) → totals_from totals ≡ totals_of rows node.kind ((run_of plan rows).stations v)
  totals-told spans law totals_law gives few stay totals is =
      let visits = visits_of node.kind ((run_of plan rows).stations v) in
      let last = last-is law in
      is ∙ (ap (held_on (counts.span - count.last)) own.totals
      ∙ (stay rows node.kind visits count.last counts.span (gives plan rows read v node there (few v node there)) (let low : greatest_time visits ≤ count.last = omega arith in low) (last-within spans law)
      ∙ (ap (sequence_totals rows node.kind visits) are.span ∙ sym (totals_law plan rows read v node there))))
