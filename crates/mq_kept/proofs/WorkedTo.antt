-- What a run that goes by rank has worked out in the place of a kept one, node after node.
use Rattle.std.proofs.Common.{◌≡◌, ◌≢◌, ℕ, ◌+◌, ◌*◌, ◌^◌, ◌<◌, ◌≤◌, ◌⊎◌, inl, inr, All, List, length, set, take, Option, Some, None, refl, sym, ap, ◌∙◌, subst, arith}
use Rattle.std.proofs.lemmas.Bool.{cases_eq}
use Rattle.std.specs.Prelude.{slice_get, sum_by}
use Rattle.std.proofs.lemmas.List.{length-set}
use Rattle.std.proofs.lemmas.Option.{slice_get-get_or, slice_get_within}
use Rattle.mq_base.proofs.lemmas.Lists.{get-set_other, get-set_same, get-some, some_inj, take-all}
use Rattle.mq_alike.specs.Again.{again_of, all_blocks, blocks_of, coming_in, worked_of}
use Rattle.mq_core.specs.NetworkRun.{RunsAreOfNetworks}
use Rattle.mq_core.specs.Theorems.{IsReadFor}
use Rattle.mq_core.specs.declared.model.Node.{Node}
use Rattle.mq_core.specs.declared.model.Plan.{Plan}
use Rattle.mq_core.specs.declared.model.Rows.{Rows}
use Rattle.mq_core.specs.declared.model.Stream.{Stream}
use Rattle.mq_core.specs.declared.model.Visits.{Visits}
use Rattle.mq_core.proofs.lemmas.Plans.{order-few}
use Rattle.mq_exits.specs.Refusals.{over_told, past_told}
use Rattle.mq_exits.specs.Results.{IsKnown}
use Rattle.mq_exits.specs.declared.working.Ending.TheVariants.{OnTime}
use Rattle.mq_engine.specs.Answer.{IsCause}
use Rattle.mq_engine.specs.CoreLaws.{CoreLaws}
use Rattle.mq_engine.specs.Progress.{AreEarly}
use Rattle.mq_engine.specs.declared.fault.RunFault.{RunFault}
use Rattle.mq_engine.specs.declared.fault.RunFault.TheVariants.{Memory, Over, Past}
use Rattle.mq_kept.specs.Formers.{AllFit, AreNodes, CanComeBack, FitsIn, HasLists, IsPut, lists_before}
use Rattle.mq_kept.specs.KeptNodes.{IsKeptNode, coming_of}
use Rattle.mq_kept.specs.NodeRuns.{AreKept, AreNodesBefore, HasStayed, HaveStayed, IsFaultAt, IsNodeBefore, came_before, coming_to}
use Rattle.mq_kept.specs.Totals.{all_again, all_worked, came_in_kept}
use Rattle.mq_kept.specs.declared.again.Redone.{Redone}
use Rattle.mq_kept.specs.declared.again.SoFar.{SoFar}
use Rattle.mq_kept.specs.declared.checkpoints.Checkpoints.{Checkpoints}
use Rattle.mq_kept.specs.declared.former.Former.TheVariants.{Same}
use Rattle.mq_kept.specs.declared.former.NodeLists.{NodeLists}
use Rattle.mq_kept.specs.declared.former.Nodes.{Nodes}
use Rattle.mq_kept.specs.declared.nodes.NodeRun.{NodeRun}
use Rattle.mq_kept.proofs.CameBefore.{kept-came}
use Rattle.mq_kept.proofs.Formers.{comes-first, comes-put, fits-first, fits-put, lists-there, put-count}
use Rattle.mq_kept.proofs.KeptNodes.{AreCheckpointsTo, coming-net, checkpoints-all, checkpoints-begin, checkpoints-more}
use Rattle.mq_kept.proofs.Ranks.{IsDoneTo, done-begins, inside, is-fine, is-run, later-apart, more, rank-below, read-before, refuses, sum-more, sum-within}

-- how much of a node is done again and worked, and how many blocks it has
abbrev pub again_at_node : Plan → Rows → ℕ → Option Rows → ℕ → ℕ
again_at_node plan rows block old v = again_of block (slice_get plan.net.nodes v) (came_in_kept plan.net rows old v) (coming_in plan.net rows v)

abbrev pub worked_at_node : Plan → Rows → ℕ → Option Rows → ℕ → ℕ
worked_at_node plan rows block old v = worked_of block (slice_get plan.net.nodes v) (came_in_kept plan.net rows old v) (coming_in plan.net rows v)

abbrev pub blocks_at_node : Plan → Rows → ℕ → ℕ → ℕ
blocks_at_node plan rows block v = blocks_of block (slice_get plan.net.nodes v) (coming_in plan.net rows v)

-- the nodes below a rank are worked out, with what is kept of them and the sums of their numbers; all can come back to what they had first, the others have it,
-- and of those that are worked out the same leaves the ones that are told to be unchanged
pub record IsWorkedTo (plan : Plan) (rows : Rows) (block : ℕ) (old : Option Rows) (first : Nodes) (worked : SoFar) (rank : ℕ) : Type 0 where
  pub done : IsDoneTo plan rows worked.nodes.visits.items worked.nodes.outputs.items rank
  pub checkpoints : AreCheckpointsTo plan rows block worked.nodes.visits.items worked.nodes.checkpoints.items rank
  pub long : length worked.formers.items ≡ length plan.net.nodes
  pub count : AreNodes (length worked.formers.items) worked.nodes
  pub back : CanComeBack first worked.nodes worked.formers.items
  pub fit : AllFit worked.nodes worked.formers.items
  pub waits : (q v : ℕ) → rank ≤ q → slice_get plan.order q ≡ Some v → slice_get worked.formers.items v ≡ Some Same
  pub stayed : (q v : ℕ) → q < rank → slice_get plan.order q ≡ Some v → slice_get worked.formers.items v ≡ Some Same → HasStayed plan old rows v
  pub again : worked.redone.again ≡ sum_by (again_at_node plan rows block old) (take rank plan.order)
  pub all : worked.redone.all ≡ sum_by (blocks_at_node plan rows block) (take rank plan.order)
  pub again_few : worked.redone.again ≤ rank * 2 ^ 32
  pub all_few : worked.redone.all ≤ rank * 2 ^ 32

pub worked-begins : (laws : CoreLaws) (plan : Plan) (rows : Rows) (block : ℕ) (old : Option Rows) (first : Nodes) (worked : SoFar) → AreNodesBefore plan old block first → worked.nodes ≡ first → length worked.formers.items ≡ length plan.net.nodes → All (λ former. former ≡ Same) worked.formers.items →
    worked.redone ≡ record { again = 0; all = 0 } → IsWorkedTo plan rows block old first worked 0
worked-begins laws plan rows block old first worked before nodes long all_same redone =
    let same : (v : ℕ) → v < length worked.formers.items → slice_get worked.formers.items v ≡ Some Same = λ v l. slice_get-get_or worked.formers.items v Same l ∙ ap Some (all_same v Same l) in
    let no_again : worked.redone.again ≡ 0 = ap (λ (r : Redone). r.again) redone in
    let no_all : worked.redone.all ≡ 0 = ap (λ (r : Redone). r.all) redone in
    let count : AreNodes (length plan.net.nodes) worked.nodes = subst (AreNodes (length plan.net.nodes)) (sym nodes) before.count in
    let counts : AreNodes (length worked.formers.items) worked.nodes = subst (λ n. AreNodes n worked.nodes) (sym long) count in
    record {
      done = done-begins laws plan rows worked.nodes.visits.items worked.nodes.outputs.items count.0 count.1 (subst (λ (n : Nodes). AreEarly n.outputs.items) (sym nodes) before.early);
      checkpoints = checkpoints-begin plan rows block worked.nodes.visits.items worked.nodes.checkpoints.items count.2;
      long = long;
      count = counts;
      back = subst (λ (n : Nodes). CanComeBack n worked.nodes worked.formers.items) nodes (comes-first worked.nodes worked.formers.items counts (λ w former e. some_inj former Same (sym e ∙ same w (slice_get_within worked.formers.items w former e))));
      fit = fits-first worked.nodes worked.formers.items (λ w former e. some_inj former Same (sym e ∙ same w (slice_get_within worked.formers.items w former e)));
      waits = λ q v l e. same v (subst (λ n. v < n) (sym long) (laws.ranks plan q v e).inside);
      stayed = λ q v l e g. absurd (omega arith);
      again = no_again;
      all = no_all;
      again_few = omega arith;
      all_few = omega arith;
    }

-- what came to a node before is what came in the kept run of the network
pub came-net : RunsAreOfNetworks → (plan : Plan) (rows : Rows) (block v : ℕ) (lists : NodeLists) (node : Node) → slice_get plan.net.nodes v ≡ Some node → (old : Option Rows) → IsNodeBefore plan old block v lists → came_before rows old lists ≡ came_in_kept plan.net rows old v
came-net same plan rows block v lists node there None none = ap (λ (l : NodeLists). coming_of rows l.visits) none
came-net same plan rows block v lists node there (Some old) h = kept-came plan old block v lists h.1 node there ∙ coming-net same plan old v

-- The numbers of a node by the network's runs.
module _ (same : RunsAreOfNetworks) (plan : Plan) (rows : Rows) (block : ℕ) (old : Option Rows) (v : ℕ) (lists : NodeLists) (node : Node) (there : slice_get plan.net.nodes v ≡ Some node) (h : IsNodeBefore plan old block v lists) where
  pub again-net : again_of block (slice_get plan.net.nodes v) (came_before rows old lists) (coming_to plan rows v) ≡ again_at_node plan rows block old v
  again-net = (λ i. again_of block (slice_get plan.net.nodes v) (came-net same plan rows block v lists node there old h i) (coming-net same plan rows v i))

  pub worked-net : worked_of block (slice_get plan.net.nodes v) (came_before rows old lists) (coming_to plan rows v) ≡ worked_at_node plan rows block old v
  worked-net = (λ i. worked_of block (slice_get plan.net.nodes v) (came-net same plan rows block v lists node there old h i) (coming-net same plan rows v i))

  pub blocks-net : blocks_of block (slice_get plan.net.nodes v) (coming_to plan rows v) ≡ blocks_at_node plan rows block v
  blocks-net = ap (blocks_of block (slice_get plan.net.nodes v)) (coming-net same plan rows v)

-- the next node
module _ (laws : CoreLaws) (plan : Plan) (rows : Rows) (block : ℕ) (old : Option Rows) (first : Nodes) (worked : SoFar) (rank v : ℕ) (w : IsWorkedTo plan rows block old first worked rank) (here : slice_get plan.order rank ≡ Some v) where
  in_nodes : v < length plan.net.nodes
  in_nodes = inside laws plan rows worked.nodes.visits.items worked.nodes.outputs.items rank v w.done here

  pub the-node : (node : Node) × (slice_get plan.net.nodes v ≡ Some node)
  the-node = get-some plan.net.nodes v in_nodes

  -- it is there
  pub in-formers : v < length worked.formers.items
  in-formers = subst (λ n. v < n) (sym w.long) in_nodes

  pub in-visits : v < length worked.nodes.visits.items
  in-visits = subst (λ n. v < n) (sym w.count.0) in-formers

  pub in-outputs : v < length worked.nodes.outputs.items
  in-outputs = subst (λ n. v < n) (sym w.count.1) in-formers

  pub in-checkpoints : v < length worked.nodes.checkpoints.items
  in-checkpoints = subst (λ n. v < n) (sym w.count.2) in-formers

  -- it has what it had first
  has-first : (lists was : NodeLists) → HasLists worked.nodes v lists → HasLists first v was → lists ≡ was
  has-first lists was h g = w.back.each v was lists Same g h (w.waits rank v (omega arith) here)

  pub before-at : AreNodesBefore plan old block first → (lists : NodeLists) → HasLists worked.nodes v lists → IsNodeBefore plan old block v lists
  before-at before lists h =
      let was = lists-there (length worked.formers.items) first v w.back.count in-formers in
      subst (IsNodeBefore plan old block v) (sym (has-first lists was.0 h was.1)) (before.each v was.0 was.1)

  -- the same leaves those that it reads and that are told to be unchanged
  pub reads-stayed : HaveStayed plan old rows worked.formers.items v
  reads-stayed node port input there e same =
      let front = read-before laws plan rows worked.nodes.visits.items worked.nodes.outputs.items rank v w.done here node there port input e in
      w.stayed front.0 input.node front.1 front.2 same

  -- what was worked so far and what it works are no more than all
  pub spent-within : sum_by (worked_at_node plan rows block old) (take rank plan.order) + worked_at_node plan rows block old v ≤ all_worked plan.net old rows block
  spent-within =
      let f = worked_at_node plan rows block old in
      subst (λ (order : List ℕ). sum_by f (take rank plan.order) + f v ≤ sum_by f order) plan.ranked (sum-within f plan.order rank v here)

  -- with it one node more is worked
  pub spent-more : (steps start more : ℕ) → steps ≡ start + sum_by (worked_at_node plan rows block old) (take rank plan.order) → more ≡ steps + worked_at_node plan rows block old v → more ≡ start + sum_by (worked_at_node plan rows block old) (take (rank + 1) plan.order)
  spent-more steps start more so_far it =
      let next = sum-more (worked_at_node plan rows block old) plan.order rank v here in
      omega arith

  -- why it gives nothing is why the run is refused
  pub fault-is-cause : IsReadFor plan.net rows → (fault : RunFault) → IsFaultAt plan rows v fault → IsCause plan rows fault
  fault-is-cause read (Over fault) h = refuses laws plan rows worked.nodes.visits.items worked.nodes.outputs.items rank v w.done here read h.0 (over_told fault) h.1 h.2
  fault-is-cause read (Past fault) h = refuses laws plan rows worked.nodes.visits.items worked.nodes.outputs.items rank v w.done here read h.0 (past_told fault) h.1 h.2
  fault-is-cause read Memory h = tt

  -- where what it had is put back, the nodes can come back
  pub comes-refused : (lists : NodeLists) (nodes' : Nodes) → HasLists worked.nodes v lists → IsPut worked.nodes v lists nodes' → CanComeBack first nodes' worked.formers.items
  comes-refused lists nodes' h p =
      comes-put worked.nodes nodes' v lists p first worked.formers.items worked.formers.items w.back w.count in-formers refl (λ u apart. refl)
      (λ was former g e. w.back.each v was lists former g h e)

  pub fits-refused : (lists : NodeLists) (nodes' : Nodes) → HasLists worked.nodes v lists → IsPut worked.nodes v lists nodes' → AllFit nodes' worked.formers.items
  fits-refused lists nodes' h p = fits-put worked.nodes nodes' v lists p worked.formers.items worked.formers.items w.fit w.count in-formers (λ u apart. refl) (λ former e. w.fit v lists former h e)

  -- what it gives is put down
  module _ (lists : NodeLists) (h : HasLists worked.nodes v lists) (gives : NodeRun) (node : Node) (there : slice_get plan.net.nodes v ≡ Some node) (known : IsKnown plan rows v node (OnTime gives.lists.visits gives.lists.streams))
      (points : IsKeptNode node.kind (coming_of rows gives.lists.visits) block gives.lists.visits.fate gives.lists.checkpoints) (back : lists_before gives.former gives.lists ≡ lists) (fits : FitsIn gives.former gives.lists) (stays : gives.former ≡ Same → HasStayed plan old rows v)
      (again : gives.again ≡ again_at_node plan rows block old v) (all : gives.all ≡ blocks_at_node plan rows block v) (again_few : gives.again < 2 ^ 32) (all_few : gives.all < 2 ^ 32)
      (worked' : SoFar) (put : IsPut worked.nodes v gives.lists worked'.nodes) (formers : worked'.formers.items ≡ set worked.formers.items v gives.former)
      (redone : worked'.redone ≡ record { again = worked.redone.again + gives.again; all = worked.redone.all + gives.all }) where
    again_is : worked'.redone.again ≡ worked.redone.again + gives.again
    again_is = ap (λ (r : Redone). r.again) redone

    all_is : worked'.redone.all ≡ worked.redone.all + gives.all
    all_is = ap (λ (r : Redone). r.all) redone

    longer : length worked'.formers.items ≡ length worked.formers.items
    longer = ap length formers ∙ length-set worked.formers.items v gives.former

    former-here : slice_get worked'.formers.items v ≡ Some gives.former
    former-here = ap (λ xs. slice_get xs v) formers ∙ get-set_same worked.formers.items v gives.former in-formers

    former-other : (u : ℕ) → u ≢ v → slice_get worked'.formers.items u ≡ slice_get worked.formers.items u
    former-other u apart = ap (λ xs. slice_get xs u) formers ∙ get-set_other worked.formers.items v u gives.former apart

    stayed-more : (q u : ℕ) → q < rank + 1 → slice_get plan.order q ≡ Some u → slice_get worked'.formers.items u ≡ Some Same → (u ≡ v) ⊎ (u ≢ v) → HasStayed plan old rows u
    stayed-more q u l e g (inl same) = subst (HasStayed plan old rows) (sym same) (stays (some_inj gives.former Same (sym former-here ∙ (ap (slice_get worked'.formers.items) (sym same) ∙ g))))
    stayed-more q u l e g (inr apart) = w.stayed q u (rank-below plan rank q v u l here e apart) e (sym (former-other u apart) ∙ g)

    pub worked-more : IsWorkedTo plan rows block old first worked' (rank + 1)
    worked-more =
        record {
          done = subst (λ (p : List Visits × List (List Stream)). IsDoneTo plan rows p.0 p.1 (rank + 1)) (λ i. (sym put.0 i, sym put.1 i))
              (more laws plan rows worked.nodes.visits.items worked.nodes.outputs.items rank v w.done here node gives.lists.visits gives.lists.streams there known);
          checkpoints = subst (λ (p : List Visits × List Checkpoints). AreCheckpointsTo plan rows block p.0 p.1 (rank + 1)) (λ i. (sym put.0 i, sym put.2 i))
              (checkpoints-more plan rows block worked.nodes.visits.items worked.nodes.checkpoints.items rank v node gives.lists.visits gives.lists.checkpoints w.checkpoints here there in-visits in-checkpoints points);
          long = longer ∙ w.long;
          count = subst (λ n. AreNodes n worked'.nodes) (sym longer) (put-count worked.nodes worked'.nodes v gives.lists put (length worked.formers.items) w.count);
          back = comes-put worked.nodes worked'.nodes v gives.lists put first worked.formers.items worked'.formers.items w.back w.count in-formers longer former-other
              (λ was former g e. subst (λ f. lists_before f gives.lists ≡ was) (some_inj gives.former former (sym former-here ∙ e)) (back ∙ has-first lists was h g));
          fit = fits-put worked.nodes worked'.nodes v gives.lists put worked.formers.items worked'.formers.items w.fit w.count in-formers former-other (λ former e. subst (λ f. FitsIn f gives.lists) (some_inj gives.former former (sym former-here ∙ e)) fits);
          waits = λ q u l e. former-other u (later-apart laws plan rows worked.nodes.visits.items worked.nodes.outputs.items rank v w.done here q u l e) ∙ w.waits q u (omega arith) e;
          stayed = λ q u l e g. stayed-more q u l e g (cases_eq u v);
          again = again_is ∙ ((λ i. w.again i + again i) ∙ sym (sum-more (again_at_node plan rows block old) plan.order rank v here));
          all = all_is ∙ ((λ i. w.all i + all i) ∙ sym (sum-more (blocks_at_node plan rows block) plan.order rank v here));
          again_few = let so_far = w.again_few in let is = again_is in omega arith;
          all_few = let so_far = w.all_few in let is = all_is in omega arith;
        }

-- the sums fit
pub sums-fit : (plan : Plan) (rows : Rows) (block : ℕ) (old : Option Rows) (first : Nodes) (worked : SoFar) (rank v a b : ℕ) → IsWorkedTo plan rows block old first worked rank → slice_get plan.order rank ≡ Some v → a < 2 ^ 32 → b < 2 ^ 32 →
    (worked.redone.again + a < 2 ^ 64) × (worked.redone.all + b < 2 ^ 64)
sums-fit plan rows block old first worked rank v a b w here la lb =
    let few = order-few plan in
    let below = slice_get_within plan.order rank v here in
    let again = w.again_few in
    let all = w.all_few in
    (omega arith, omega arith)

-- behind the last rank all is worked
pub all-spent : (plan : Plan) (rows : Rows) (block : ℕ) (old : Option Rows) (rank : ℕ) → length plan.order ≤ rank → sum_by (worked_at_node plan rows block old) (take rank plan.order) ≡ all_worked plan.net old rows block
all-spent plan rows block old rank last = ap (sum_by (worked_at_node plan rows block old)) (take-all plan.order rank last ∙ plan.ranked)

-- behind the last rank all is
module _ (laws : CoreLaws) (plan : Plan) (rows : Rows) (block : ℕ) (old : Option Rows) (first : Nodes) (worked : SoFar) (rank : ℕ) (read : IsReadFor plan.net rows) (last : length plan.order ≤ rank) (w : IsWorkedTo plan rows block old first worked rank) where
  pub all-kept : AreKept plan rows block (record { visits = worked.nodes.visits.items; outputs = worked.nodes.outputs.items }) worked.nodes.checkpoints.items
  all-kept = record {
    read = read;
    is_run = is-run laws plan rows read worked.nodes.visits.items worked.nodes.outputs.items rank last w.done;
    fine = is-fine laws plan rows read worked.nodes.visits.items worked.nodes.outputs.items rank last w.done;
    early = w.done.reached.early;
    checkpoints = checkpoints-all plan rows block worked.nodes.visits.items worked.nodes.checkpoints.items rank last w.checkpoints;
  }

  pub all-redone : worked.redone ≡ record { again = all_again plan.net old rows block; all = all_blocks plan.net rows block }
  all-redone =
      let again : worked.redone.again ≡ all_again plan.net old rows block = w.again ∙ ap (sum_by (again_at_node plan rows block old)) (take-all plan.order rank last ∙ plan.ranked) in
      let all : worked.redone.all ≡ all_blocks plan.net rows block = w.all ∙ ap (sum_by (blocks_at_node plan rows block)) (take-all plan.order rank last ∙ plan.ranked) in
      λ i. record { again = again i; all = all i }
