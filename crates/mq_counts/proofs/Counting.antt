-- What is told of nodes, one by one.
use Rattle.std.proofs.Common.{◌≡◌, ℕ, ◌+◌, ◌<◌, ◌≤◌, ◌++◌, List, [], ◌∷◌, Some, drop, length, length-append, map, max, refl, sym, subst, ap, ◌∙◌, arith}
use Rattle.std.specs.Prelude.{fold, slice_get}
use Rattle.std.specs.List.{AllByRecursion as Each}
use Rattle.std.proofs.lemmas.Option.{slice_get_within}
use Rattle.mq_base.proofs.lemmas.Each.{Each-append}
use Rattle.mq_base.proofs.lemmas.Lists.{get-some, some_inj}
use Rattle.mq_core.specs.Sequences.{greatest_time, sequence_totals, visits_by_node}
use Rattle.mq_core.specs.StandardTable.{run_of}
use Rattle.mq_core.specs.Theorems.{IsReadFor}
use Rattle.mq_core.specs.declared.model.Node.{Node}
use Rattle.mq_core.specs.declared.model.Plan.{Plan}
use Rattle.mq_core.specs.declared.model.Rows.{Rows}
use Rattle.mq_counts.proofs.Exits.{exits-told}
use Rattle.mq_counts.proofs.Lists.{among-all, pushed-at}
use Rattle.mq_counts.proofs.Spans.{ended, grown}
use Rattle.mq_counts.specs.Counts.{AreNodeCounts, AreVisitsIn, IsCountIn, IsVisitsIn}
use Rattle.mq_counts.specs.Leaving.{AreExitsAt, AreNodeStreams}
use Rattle.mq_counts.specs.Tails.{IsTailIn}
use Rattle.mq_counts.specs.Totals.{AreSumsOf, IsSumIn, IsSumOf, IsVisited}
use Rattle.mq_counts.specs.declared.counts.NodeSequences.{NodeSequences}
use Rattle.mq_counts.specs.declared.counts.NodeCount.{NodeCount}
use Rattle.mq_counts.specs.declared.leaving.NodeStreams.{NodeStreams}
use Rattle.mq_counts.specs.declared.totals.NodeVisits.{NodeVisits}
use Rattle.mq_stats.specs.Lasts.{LastsAreGreatest}
use Rattle.mq_stats.specs.Numbers.{AreSmall, totals_from}
use Rattle.mq_stats.specs.Percentiles.{ArePercentiles, waits_at}
use Rattle.mq_stats.specs.declared.blocks.BlockCount.{BlockCount}

-- Visits. Those of none, and of one more.
pub visits-in-none : (rows : Rows) (all : List NodeSequences) (visits : List NodeVisits) → visits ≡ [] → AreVisitsIn rows all 0 visits
visits-in-none rows all visits none = rw none (record { len = refl; visited = tt; each = λ i its here sequences there. absurd cc })

pub visits-in-more : (rows : Rows) (all : List NodeSequences) (i : ℕ) (visits visits' : List NodeVisits) (sequences : NodeSequences) (its : NodeVisits) → AreVisitsIn rows all i visits → slice_get all i ≡ Some sequences → IsVisited its → IsVisitsIn rows sequences its → visits' ≡ visits ++ its ∷ [] → AreVisitsIn rows all (i + 1) visits'
visits-in-more rows all i visits visits' sequences its so_far here visited are grown =
    let one = length-append visits (its ∷ []) in
    let len = so_far.len in
    let longer = ap length grown in
    record {
      len = omega arith;
      visited = subst (Each IsVisited) (sym grown) (Each-append IsVisited visits (its ∷ []) so_far.visited (visited, tt));
      each = pushed-at (λ j (x : NodeVisits). (e : NodeSequences) → slice_get all j ≡ Some e → IsVisitsIn rows e x) i visits visits' its so_far.len so_far.each
          (λ e there. subst (λ (x : NodeSequences). IsVisitsIn rows x its) (some_inj sequences e (sym here ∙ there)) are) grown;
    }

pub visits-in-all : (rows : Rows) (all : List NodeSequences) (i : ℕ) (visits : List NodeVisits) → AreVisitsIn rows all i visits → i ≡ length all → AreVisitsIn rows all (length all) visits
visits-in-all rows all i visits so_far e = subst (λ n. AreVisitsIn rows all n visits) e so_far

-- What is told of the node at an index.
pub count-at : (nodes : List Node) (rows : Rows) (form : ℕ) (all : List NodeSequences) (visits : List NodeVisits) (sums : List BlockCount) (streams : List NodeStreams) (i : ℕ) (its : NodeVisits) (sum : BlockCount) (node : NodeStreams) (count : NodeCount) →
    AreVisitsIn rows all (length all) visits → AreSumsOf visits sums → AreNodeStreams nodes rows all (length all) streams → slice_get visits i ≡ Some its → slice_get sums i ≡ Some sum → slice_get streams i ≡ Some node →
    count.totals ≡ sum.totals → count.last ≡ its.last → AreExitsAt node count.exits → (form ≡ 2 → IsTailIn visits i count.tail) → IsCountIn nodes rows form all i count
count-at nodes rows form all visits sums streams i its sum node count visited summed parted here here' here'' same last exits tail sequences there =
    let are = visited.each i its here sequences there in
    let counted : IsSumOf its sum = among-all (IsSumIn visits) (length visits) sums i sum summed here' its here in
    record {
      last = last ∙ are.last;
      totals = ap totals_from same ∙ counted.totals ∙ (λ k. sequence_totals (are.table k) (are.kind k) (are.visits k) (sym last k));
      small = subst AreSmall (sym same) counted.small;
      tail = λ e. subst (λ (waits : List ℕ). ArePercentiles waits count.tail) (λ k. waits_at (are.table k) (are.kind k) (are.visits k)) (tail e its here);
      exits = exits-told nodes rows sequences node count.exits (parted.each i node here'' sequences there) exits;
    }

-- The last event of a run. One node more.
module _ (law : LastsAreGreatest) (plan : Plan) (rows : Rows) (read : IsReadFor plan.net rows) (form : ℕ) (counts : List NodeCount) (are : AreNodeCounts plan rows form counts) where
  pub last-more : (v : ℕ) (count : NodeCount) (span span' : ℕ) → slice_get counts v ≡ Some count → span' ≡ max span count.last →
      fold max span (map greatest_time (visits_by_node (run_of plan rows) v (drop v plan.net.nodes))) ≡ (run_of plan rows).clock →
      fold max span' (map greatest_time (visits_by_node (run_of plan rows) (v + 1) (drop (v + 1) plan.net.nodes))) ≡ (run_of plan rows).clock
  last-more v count span span' here more h =
      let inside : v < length plan.net.nodes = subst (λ (n : ℕ). v < n) are.len (slice_get_within counts v count here) in
      let node = get-some plan.net.nodes v inside in
      grown plan rows v node.0 span count.last span' node.1 ((are.each v node.0 count node.1 here).last ∙ sym (law plan rows read v node.0 node.1)) more h

  pub last-all : (v span : ℕ) → length counts ≤ v → fold max span (map greatest_time (visits_by_node (run_of plan rows) v (drop v plan.net.nodes))) ≡ (run_of plan rows).clock → span ≡ (run_of plan rows).clock
  last-all v span l h = let len = are.len in ended plan rows v span (omega arith) h
