-- What came to a node before, be it nothing, and which of its blocks stay.
use Rattle.mq_alike.specs.Again.{Coming, alike}
use Rattle.mq_arrivals.specs.declared.nodes.Arriving.{Arriving}
use Rattle.mq_base.proofs.lemmas.Lists.{some_inj}
use Rattle.mq_core.specs.Results.{visits_of}
use Rattle.mq_core.specs.StandardTable.{run_of}
use Rattle.mq_core.specs.declared.model.Fate.{Fate}
use Rattle.mq_core.specs.declared.model.Kind.{Kind}
use Rattle.mq_core.specs.declared.model.Node.{Node}
use Rattle.mq_core.specs.declared.model.Plan.{Plan}
use Rattle.mq_core.specs.declared.model.Rows.{Rows}
use Rattle.mq_core.specs.declared.model.Stream.{Stream}
use Rattle.mq_edits.specs.declared.former.FormerRows.{FormerRows}
use Rattle.mq_engine.specs.CoreLaws.{CoreLaws}
use Rattle.mq_exits.proofs.Known.{fine-few}
use Rattle.mq_exits.specs.Results.{IsKnown}
use Rattle.mq_exits.specs.declared.load.Held.{Held}
use Rattle.mq_exits.specs.declared.working.Ending.TheVariants.{OnTime}
use Rattle.mq_kept.proofs.KeptRuns.{kept-demands}
use Rattle.mq_kept.proofs.None.{kept-none}
use Rattle.mq_kept.specs.Formers.{no_lists}
use Rattle.mq_kept.specs.KeptNodes.{IsKeptNode, coming_of}
use Rattle.mq_kept.specs.NodeRuns.{IsNodeBefore, IsNodeKept, came_before, coming_to, earlier_rows, kept_rows}
use Rattle.mq_kept.specs.declared.checkpoints.Checkpoints.{Checkpoints}
use Rattle.mq_kept.specs.declared.former.NodeLists.{NodeLists}
use Rattle.mq_merge.specs.Borrowed.{stream_in}
use Rattle.mq_redo.specs.Kept.{IsStaying, coming_as}
use Rattle.mq_stations.specs.Leaving.{HaveDemands}
use Rattle.std.proofs.Common.{◌≡◌, ◌==◌, ◌&&◌, ◌⊎◌, inl, inr, false, ℕ, ◌*◌, ◌/◌, ◌≤◌, List, [], length, Option, Some, None, refl, sym, ap, ◌∙◌, subst, arith}
use Rattle.std.proofs.lemmas.List.{length-map}
use Rattle.std.proofs.lemmas.Nat.{div-add-mod'}
use Rattle.std.specs.Borrow.{Bor}
use Rattle.std.specs.Prelude.{slice_get}

-- what is kept of a node is known, so what came to it is what came in the run
module _ (plan : Plan) (rows : Rows) (block v : ℕ) (lists : NodeLists) (k : IsNodeKept plan rows block v lists) (node : Node) (there : slice_get plan.net.nodes v ≡ Some node) where
  pub kept-known : IsKnown plan rows v node (OnTime lists.visits lists.streams)
  kept-known =
      let w = k.known in
      subst (λ (n : Node). IsKnown plan rows v n (OnTime lists.visits lists.streams)) (some_inj w.0 node (sym w.1 ∙ there)) w.2

  pub kept-came : coming_of rows lists.visits ≡ coming_to plan rows v
  kept-came = ap (coming_of rows) kept-known.0

-- nothing is kept before the first run, and behind it what the run has
pub none-before : (plan : Plan) (rows : Rows) (earlier : Option (Bor FormerRows)) (block v : ℕ) (lists : NodeLists) → earlier ≡ None → IsNodeBefore plan (earlier_rows rows earlier) block v lists → lists ≡ no_lists
none-before plan rows earlier block v lists e h = subst (λ o. IsNodeBefore plan (earlier_rows rows o) block v lists) e h

-- where no run is kept no visit came
pub none-or-differs : (s : Arriving) (earlier : Option (Bor FormerRows)) (v : ℕ) (lists : NodeLists) → IsNodeBefore s.plan.now (earlier_rows s.rows.now earlier) s.block v lists → (same visits count : ℕ) → (earlier ≡ None) ⊎ (((same == visits) && (same == count)) ≡ false) →
    (lists.visits.job ≡ []) ⊎ (((same == visits) && (same == count)) ≡ false)
none-or-differs s earlier v lists h same visits count (inl none) = inl (ap (λ (l : NodeLists). l.visits.job) (none-before s.plan.now s.rows.now earlier s.block v lists none h))
none-or-differs s earlier v lists h same visits count (inr differs) = inr differs

-- What came before, be it nothing.
module _ (laws : CoreLaws) (plan : Plan) (rows : Rows) (block v : ℕ) (lists : NodeLists) (node : Node) (there : slice_get plan.net.nodes v ≡ Some node) where
  pub before-told : (old : Option Rows) → IsNodeBefore plan old block v lists → HaveDemands (kept_rows rows old) node.kind lists.visits.job
  before-told None none = subst (λ (l : NodeLists). HaveDemands rows node.kind l.visits.job) (sym none) (λ k job e. absurd cc)
  before-told (Some old) h =
      let came = kept-came plan old block v lists h.1 node there in
      subst (λ (c : Coming). HaveDemands old node.kind c.job) (sym came) (kept-demands laws plan old h.0 v node there)

  pub before-even : (old : Option Rows) → IsNodeBefore plan old block v lists → length lists.visits.arrive ≡ length lists.visits.job
  before-even None none = subst (λ (l : NodeLists). length l.visits.arrive ≡ length l.visits.job) (sym none) refl
  before-even (Some old) h =
      let xs = ((run_of plan old).stations v).visits in
      subst (λ (c : Coming). length c.arrive ≡ length c.job) (sym (kept-came plan old block v lists h.1 node there)) (length-map xs _ ∙ sym (length-map xs _))

  pub before-few : (old : Option Rows) → IsNodeBefore plan old block v lists → length lists.visits.job ≤ 1048576
  before-few None none = subst (λ (l : NodeLists). length l.visits.job ≤ 1048576) (sym none) (omega arith)
  before-few (Some old) h =
      let known = kept-known plan old block v lists h.1 node there in
      subst (λ (c : Coming). length c.job ≤ 1048576) (sym (kept-came plan old block v lists h.1 node there)) (fine-few plan.net.bound v (visits_of node.kind ((run_of plan old).stations v)) known.3)

  -- blocks before the first difference stay
  before-kept : (old : Option Rows) → 1 ≤ block → IsNodeBefore plan old block v lists → IsKeptNode node.kind (came_before rows old lists) block lists.visits.fate lists.checkpoints
  before-kept None some none = subst (λ (l : NodeLists). IsKeptNode node.kind (coming_of rows l.visits) block l.visits.fate l.checkpoints) (sym none) (kept-none node.kind rows block some)
  before-kept (Some old) some h = h.1.checkpoints node there

  pub staying-by : (old : Option Rows) (new : Coming) (same blocks : ℕ) → 1 ≤ block → IsNodeBefore plan old block v lists → same ≡ alike node.kind (came_before rows old lists) new → blocks ≡ same / block →
      IsKeptNode node.kind (came_before rows old lists) block lists.visits.fate lists.checkpoints × IsStaying node.kind (came_before rows old lists) new block blocks
  staying-by old new same blocks some h is first =
      let whole = div-add-mod' same block in
      let many = ap (λ (b : ℕ). b * block) first in
      (before-kept old some h, record { even = before-even old h; same = omega arith })

-- so many blocks of a node stay of which this is kept
abbrev pub Stay : Kind → Coming → Coming → ℕ → List Fate → Checkpoints → ℕ → Type 0
Stay kind old new block fates points blocks = IsKeptNode kind old block fates points × IsStaying kind old new block blocks

pub staying-at : (held : Held) (plan : Plan) (rows : Rows) (v block : ℕ) (node : Node) (arrivals : Stream) (old : Coming) (fates : List Fate) (points : Checkpoints) (blocks : ℕ) → held.plan.now ≡ plan → held.rows.now ≡ rows → held.number ≡ v → held.block ≡ block → arrivals ≡ stream_in held.arrivals → slice_get plan.net.nodes v ≡ Some node →
    Stay node.kind old (coming_as rows arrivals) block fates points blocks →
    (n : Node) → slice_get held.plan.now.net.nodes held.number ≡ Some n → (x : Coming) × Stay n.kind x (coming_as held.rows.now (stream_in held.arrivals)) held.block fates points blocks
staying-at held plan rows v block node arrivals old fates points blocks a b c d e there h =
    subst (λ (t : Plan × Rows × ℕ × ℕ × Stream). (n : Node) → slice_get t.0.net.nodes t.2 ≡ Some n → (x : Coming) × Stay n.kind x (coming_as t.1 t.4) t.3 fates points blocks) (λ i. (sym a i, sym b i, sym c i, sym d i, e i))
    (λ n g. (old, subst (λ (m : Node). Stay m.kind old (coming_as rows arrivals) block fates points blocks) (some_inj node n (sym there ∙ g)) h))
