-- A run that is done again in the place of a kept one: what it takes of that, and what it leaves.
use Rattle.std.proofs.Common.{◌≡◌, ℕ, suc, ◌+◌, ◌<◌, ◌≤◌, List, [], ◌∷◌, length, Some, None, refl, sym, ap, ◌∙◌, subst}
use Rattle.std.specs.Prelude.{slice_get}
use Rattle.std.proofs.lemmas.Option.{slice_get_within}
use Rattle.mq_base.proofs.lemmas.Lists.{get-some}
use Rattle.mq_alike.specs.Again.{again, all_blocks, worked}
use Rattle.mq_core.specs.Local.{Local}
use Rattle.mq_core.specs.Machine.{State}
use Rattle.mq_core.specs.RunLaws.{RunsHaveSequences}
use Rattle.mq_core.specs.Sequences.{streams_by_node, visits_by_node}
use Rattle.mq_core.specs.StandardTable.{run_of}
use Rattle.mq_core.specs.declared.model.Node.{Node}
use Rattle.mq_core.specs.declared.model.Plan.{Plan}
use Rattle.mq_core.specs.declared.model.Rows.{Rows}
use Rattle.mq_core.specs.declared.model.Run.{Run}
use Rattle.mq_core.specs.declared.model.Stream.{Stream}
use Rattle.mq_core.specs.declared.model.Visits.{Visits}
use Rattle.mq_edits.specs.Edited.{edited_rows}
use Rattle.mq_edits.specs.declared.edit.Edit.{Edit}
use Rattle.mq_engine.specs.CoreLaws.{CoreLaws}
use Rattle.mq_engine.specs.Progress.{AreEarly}
use Rattle.mq_kept.specs.Formers.{AreNodes, AreNothing, HasLists}
use Rattle.mq_kept.specs.Keeping.{IsKept, KeptRun}
use Rattle.mq_kept.specs.Totals.{all_again, all_worked}
use Rattle.mq_kept.specs.declared.again.Redone.{Redone}
use Rattle.mq_kept.specs.NodeRuns.{AreKept, AreNodesBefore, IsNodeBefore}
use Rattle.mq_kept.specs.declared.checkpoints.Checkpoints.{Checkpoints}
use Rattle.mq_kept.specs.declared.former.NodeLists.{NodeLists}
use Rattle.mq_kept.specs.declared.former.Nodes.{Nodes}
use Rattle.mq_kept.proofs.KeptRuns.{kept-fine}
use Rattle.mq_kept.proofs.SameNodes.{has-known}

-- a run has as many as there are nodes
visits-long : (end : State Local) (from : ℕ) (nodes : List Node) → length (visits_by_node end from nodes) ≡ length nodes
visits-long end from [] = refl
visits-long end from (node ∷ nodes) = ap suc (visits-long end (suc from) nodes)

streams-long : (end : State Local) (from : ℕ) (nodes : List Node) → length (streams_by_node end from nodes) ≡ length nodes
streams-long end from [] = refl
streams-long end from (node ∷ nodes) = ap suc (streams-long end (suc from) nodes)

-- what the type keeps is what the nodes have before
module _ (laws : CoreLaws) (has : RunsHaveSequences) (plan : Plan) (rows : Rows) (run : Run) (points : List Checkpoints) (workers block : ℕ) (kept : IsKept plan rows run points workers block)
    (nodes : Nodes) (visits : nodes.visits.items ≡ run.visits) (outputs : nodes.outputs.items ≡ run.outputs) (checkpoints : nodes.checkpoints.items ≡ points) where
  count : AreNodes (length plan.net.nodes) nodes
  count = (
    ap length (visits ∙ kept.whole.is_run.visits) ∙ visits-long (run_of plan rows) 0 plan.net.nodes,
    ap length (outputs ∙ kept.whole.is_run.outputs) ∙ streams-long (run_of plan rows) 0 plan.net.nodes,
    ap length checkpoints ∙ kept.checkpoints.count,
  )

  each : (v : ℕ) (lists : NodeLists) → HasLists nodes v lists → IsNodeBefore plan (Some rows) block v lists
  each v lists h =
      let a : slice_get run.visits v ≡ Some lists.visits = sym (ap (λ xs. slice_get xs v) visits) ∙ h.0 in
      let b : slice_get run.outputs v ≡ Some lists.streams = sym (ap (λ xs. slice_get xs v) outputs) ∙ h.1 in
      let c : slice_get points v ≡ Some lists.checkpoints = sym (ap (λ xs. slice_get xs v) checkpoints) ∙ h.2 in
      let node = get-some plan.net.nodes v (subst (λ n. v < n) count.0 (slice_get_within nodes.visits.items v lists.visits h.0)) in
      let known = has-known plan rows v node.0 run.visits run.outputs lists.visits lists.streams (has plan rows run kept.whole.is_run v node.0 node.1) a b (λ out stream e. kept.early v out lists.streams stream b e)
      (kept-fine laws plan rows kept.whole.read kept.whole.fine v node.0 node.1) in
      (kept.whole.read, record { known = (node.0, node.1, known); checkpoints = λ other at. kept.checkpoints.each v other lists.visits lists.checkpoints at a c })

  pub kept-before : AreNodesBefore plan (Some rows) block nodes
  kept-before = record {
    count = count;
    each = each;
    early = subst AreEarly (sym outputs) kept.early;
  }

-- before the first run they have nothing
pub nothing-before : (plan : Plan) (block : ℕ) (nodes : Nodes) → AreNodes (length plan.net.nodes) nodes → AreNothing nodes → AreNodesBefore plan None block nodes
nothing-before plan block nodes many nothing = record {
  count = many;
  each = nothing;
  early = λ u out streams stream a b.
      let inside = slice_get_within nodes.outputs.items u streams a in
      let visits = get-some nodes.visits.items u (subst (λ n. u < n) (many.1 ∙ sym many.0) inside) in
      let points = get-some nodes.checkpoints.items u (subst (λ n. u < n) (many.1 ∙ sym many.2) inside) in
      let none : streams ≡ [] = ap (λ (l : NodeLists). l.streams) (nothing u (record { visits = visits.0; streams = streams; checkpoints = points.0 }) (visits.1, a, points.1)) in
      let gone = sym (ap (λ (l : List Stream). slice_get l out) none) ∙ b in
      absurd cc;
}

-- a kept run in its place is what the type keeps
pub kept-behind : (plan : Plan) (rows rows0 rows1 : Rows) (run run0 run1 : Run) (points points0 points1 : List Checkpoints) (workers block : ℕ) → IsKept plan rows0 run0 points0 workers block → AreKept plan rows block run points → rows1 ≡ rows → run1 ≡ run → points1 ≡ points →
    IsKept plan rows1 run1 points1 workers block
kept-behind plan rows rows0 rows1 run run0 run1 points points0 points1 workers block was kept r u h =
    subst (λ (p : Rows × Run × List Checkpoints). IsKept plan p.0 p.1 p.2 workers block) (λ i. (sym r i, sym u i, sym h i))
    (record {
      whole = record { read = kept.read; some = was.whole.some; most = was.whole.most; block = was.whole.block; large = was.whole.large; is_run = kept.is_run; fine = kept.fine };
      early = kept.early;
      checkpoints = kept.checkpoints;
    })

-- and what it was, where that is put back
pub kept-back : (plan : Plan) (rows rows1 : Rows) (run : Run) (visits1 : List Visits) (outputs1 : List (List Stream)) (points points1 : List Checkpoints) (workers block : ℕ) → IsKept plan rows run points workers block → rows1 ≡ rows → visits1 ≡ run.visits → outputs1 ≡ run.outputs → points1 ≡ points →
    IsKept plan rows1 (record { visits = visits1; outputs = outputs1 }) points1 workers block
kept-back plan rows rows1 run visits1 outputs1 points points1 workers block was r v o h =
    subst (λ (p : Rows × Run × List Checkpoints). IsKept plan p.0 p.1 p.2 workers block) (λ i. (sym r i, record { visits = sym v i; outputs = sym o i }, sym h i)) was

-- What contracts see of it, where these were the rows before, of which edits made these.
module _ (plan : Plan) (old before new : Rows) (run : Run) (workers block : ℕ) (edits : List Edit) (is_old : before ≡ old) (is_new : new ≡ edited_rows old edits) (k : KeptRun) (view : record { plan = plan; rows = old; run = run; workers = workers; block = block } ≡ k) where
  pub redone-view : (redone : Redone) → redone ≡ record { again = all_again plan.net (Some before) new block; all = all_blocks plan.net new block } →
      redone ≡ record { again = again k.plan.net k.rows (edited_rows k.rows edits) k.block; all = all_blocks k.plan.net (edited_rows k.rows edits) k.block }
  redone-view redone h =
      h
      ∙ ((λ i. record { again = again plan.net (is_old i) (is_new i) block; all = all_blocks plan.net (is_new i) block })
      ∙ ap (λ (seen : KeptRun). record { again = again seen.plan.net seen.rows (edited_rows seen.rows edits) seen.block; all = all_blocks seen.plan.net (edited_rows seen.rows edits) seen.block }) view)

  pub worked-view : all_worked plan.net (Some before) new block ≡ worked k.plan.net k.rows (edited_rows k.rows edits) k.block
  worked-view = (λ i. worked plan.net (is_old i) (is_new i) block) ∙ ap (λ (seen : KeptRun). worked seen.plan.net seen.rows (edited_rows seen.rows edits) seen.block) view

  pub spent-view : (steps more : ℕ) → more ≤ steps + all_worked plan.net (Some before) new block → more ≤ steps + worked k.plan.net k.rows (edited_rows k.rows edits) k.block
  spent-view steps more h = subst (λ n. more ≤ steps + n) worked-view h

  pub counted-view : (steps more : ℕ) → more ≡ steps + all_worked plan.net (Some before) new block → more ≡ steps + worked k.plan.net k.rows (edited_rows k.rows edits) k.block
  counted-view steps more h = subst (λ n. more ≡ steps + n) worked-view h
