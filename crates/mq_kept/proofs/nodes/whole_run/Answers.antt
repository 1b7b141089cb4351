use Rattle.std.proofs.Common.{◌≡◌, ◌+◌, ◌*◌, ◌/◌, ◌≤◌, ◌∙◌, ℕ, length, Some, ap, sym, refl, subst, arith}
use Rattle.std.specs.Borrow.{Bor}
use Rattle.std.specs.Prelude.{IfErr, IfOk, OnOk, Option, slice_get}
use Rattle.mq_alike.specs.Again.{alike, blocks_in}
use Rattle.mq_edits.specs.Former.{rows_before}
use Rattle.mq_edits.specs.declared.former.FormerRows.{FormerRows}
use Rattle.std.proofs.lemmas.Result.{IfOk-weaker, on_ok_weaker}
use Rattle.mq_core.specs.declared.model.Node.{Node}
use Rattle.mq_core.specs.declared.model.Plan.{Plan}
use Rattle.mq_core.specs.declared.model.Rows.{Rows}
use Rattle.mq_core.specs.declared.model.Stream.{Stream}
use Rattle.mq_exits.specs.Results.{IsWorkedOut}
use Rattle.mq_exits.specs.declared.working.Ending.TheVariants.{OnTime}
use Rattle.mq_kept.specs.KeptNodes.{IsKeptNode, blocks_behind, coming_of}
use Rattle.mq_kept.specs.NodeRuns.{IsFaultAt, IsNodeBefore, IsNodeRun, came_before, earlier_rows}
use Rattle.mq_kept.specs.declared.former.NodeLists.{NodeLists}
use Rattle.mq_kept.proofs.CameBefore.{before-even, before-few, before-told, none-before, none-or-differs, staying-at, staying-by}
use Rattle.mq_kept.proofs.Ended.{changed-cause, changed-ok, changed-run, kept-lists, loaded-at, tail-gives}
use Rattle.mq_kept.proofs.Numbers.{none-worked, station-again, station-all, station-worked, tail-blocks}
use Rattle.mq_kept.proofs.TailRuns.{staying-load}
use Rattle.mq_kept.proofs.Unchanged.{station-run}
use Rattle.mq_redo.specs.Kept.{coming_as}
use Rattle.mq_kept.proofs.nodes.whole_run.Goals as goal

pub alike_at-same-requires-clause-none : goal.alike_at-same-requires-clause-none
alike_at-same-requires-clause-none g c none =
    let s = c.args.arriving.now in
    ap (λ (l : NodeLists). l.visits.job) (none-before s.plan.now s.rows.now c.args.past.now.earlier s.block c.args.number c.args.lists none c.requires.before)

pub alike_at-same-requires-clause-earlier : goal.alike_at-same-requires-clause-earlier
alike_at-same-requires-clause-earlier g c =
    let s = c.args.arriving.now in
    before-told c.core_laws.ensures s.plan.now s.rows.now s.block c.args.number c.args.lists c.get.result.now c.get.ensures _ c.requires.before

pub alike_at-same-requires-clause-even : goal.alike_at-same-requires-clause-even
alike_at-same-requires-clause-even g c =
    let s = c.args.arriving.now in
    before-even c.core_laws.ensures s.plan.now s.rows.now s.block c.args.number c.args.lists c.get.result.now c.get.ensures _ c.requires.before

pub unchanged_run-requires-clause-few : goal.unchanged_run-requires-clause-few
unchanged_run-requires-clause-few g c =
    let s = c.args.arriving.now in
    before-few c.core_laws.ensures s.plan.now s.rows.now s.block c.args.number c.args.lists c.get.result.now c.get.ensures _ c.requires.before

pub returns-then-is_unchanged-clause-gives : goal.returns-then-is_unchanged-clause-gives
returns-then-is_unchanged-clause-gives g c =
    let s = c.args.arriving.now in
    let yes = c.is_unchanged.ensures.yes c.if-is_unchanged.true in
    let held = c.in-Ok.held in
    let h = c.in-Ok.ensures in
    let loaded = loaded-at held s.plan.now s.rows.now c.args.number c.stream-arrivals.result.now h.ready h.plan h.rows h.number c.stream-arrivals.ensures in
    let left = c.unchanged_run.ensures in
    station-run c.core_laws.ensures s c.args.past.now.earlier yes.0.0 yes.0.1 c.args.number c.get.result.now c.args.lists c.unchanged_run.result c.get.ensures c.requires.wave.read c.requires.before
    (record { lists_are = left.lists; former = left.former; again = left.again; all = left.all; few = left.few })
    c.sequences_stay.ensures c.alike_is_first.ensures c.stream-arrivals.result.now loaded c.alike_at-same.result c.len-visits.result c.len-count.result
    (c.requires.can.once c.get.result.now c.get.ensures) c.alike_at-same.ensures c.len-visits.ensures c.len-count.ensures yes.1 yes.2

pub overflow_cast-visits : goal.overflow_cast-visits
overflow_cast-visits g c =
    let s = c.args.arriving.now in
    let few = before-few c.core_laws.ensures s.plan.now s.rows.now s.block c.args.number c.args.lists c.get.result.now c.get.ensures _ c.requires.before in
    let count = c.len-visits.ensures in
    omega arith

pub counted-again-requires : goal.counted-again-requires
counted-again-requires g c =
    let s = c.args.arriving.now in
    let first = c.alike_is_first.ensures c.get.result.now.kind (came_before s.rows.now (earlier_rows s.rows.now c.args.past.now.earlier) c.args.lists) (coming_as s.rows.now c.stream-arrivals.result.now) in
    let few = first.new_few in
    let same = c.alike_at-same.ensures in
    let count = c.len-count.ensures in
    let size = c.cut.ensures.0 in
    omega arith

pub worked_lists-now-requires-clause-stays : goal.worked_lists-now-requires-clause-stays
worked_lists-now-requires-clause-stays g c κs within =
    let s = c.args.arriving.now in
    let old = earlier_rows s.rows.now c.args.past.now.earlier in
    let h = c.in-Ok.ensures in
    let staying = staying-by c.core_laws.ensures s.plan.now s.rows.now s.block c.args.number c.args.lists c.get.result.now c.get.ensures old (coming_as s.rows.now c.stream-arrivals.result.now) c.alike_at-same.result (c.alike_at-same.result / s.block) c.requires.wave.block c.requires.before c.alike_at-same.ensures refl in
    staying-at c.in-Ok.held s.plan.now s.rows.now c.args.number s.block c.get.result.now c.stream-arrivals.result.now (came_before s.rows.now old c.args.lists) c.args.lists.visits.fate c.args.lists.checkpoints (c.alike_at-same.result / s.block) h.plan h.rows h.number h.block c.stream-arrivals.ensures c.get.ensures staying

pub returns-clause-gives : goal.returns-clause-gives
returns-clause-gives g c =
    let s = c.args.arriving.now in
    let old = earlier_rows s.rows.now c.args.past.now.earlier in
    let came = came_before s.rows.now old c.args.lists in
    let held = c.in-Ok.ensures in
    let loaded = loaded-at c.in-Ok.held s.plan.now s.rows.now c.args.number c.stream-arrivals.result.now held.ready held.plan held.rows held.number c.stream-arrivals.ensures in
    let again = station-again s came c.args.number c.get.result.now c.stream-arrivals.result.now c.get.ensures loaded c.alike_at-same.result c.len-visits.result c.cut.result.n c.cut.result.block c.counted-again.result.0
    c.alike_at-same.ensures c.len-visits.ensures (c.cut.ensures.0 ∙ c.len-count.ensures) c.cut.ensures.1 c.counted-again.ensures.again in
    let all = station-all s came c.args.number c.get.result.now c.stream-arrivals.result.now c.get.ensures loaded c.cut.result.n c.cut.result.block c.counted-again.result.1 (c.cut.ensures.0 ∙ c.len-count.ensures) c.cut.ensures.1 c.counted-again.ensures.all in
    let w = c.worked_lists-now.ensures in
    let made = c.worked_lists-now.result in
    let known = subst (λ (t : Plan × Rows × ℕ). IfOk made (λ lists. IsWorkedOut t.0 t.1 (record { number = t.2; ending = OnTime lists.visits lists.streams }))) (λ i. (held.plan i, held.rows i, held.number i)) w.known in
    let checkpoints = subst (λ (t : Plan × Rows × ℕ × ℕ). IfOk made (λ lists. (node : Node) → slice_get t.0.net.nodes t.2 ≡ Some node → IsKeptNode node.kind (coming_of t.1 lists.visits) t.3 lists.visits.fate lists.checkpoints)) (λ i. (held.plan i, held.rows i, held.number i, held.block i)) w.checkpoints in
    changed-run s old c.args.lists c.args.number c.counted-again.result.0 c.counted-again.result.1 made c.changed_run.result again all (omega arith) (omega arith) (kept-lists s.plan.now s.rows.now c.args.number s.block made known checkpoints) c.changed_run.ensures.gives

pub returns-clause-cause : goal.returns-clause-cause
returns-clause-cause g c =
    let s = c.args.arriving.now in
    let held = c.in-Ok.ensures in
    let made = c.worked_lists-now.result in
    let cause = subst (λ (t : Plan × Rows × ℕ). IfErr made (IsFaultAt t.0 t.1 t.2)) (λ i. (held.plan i, held.rows i, held.number i)) c.worked_lists-now.ensures.cause in
    changed-cause s.plan.now s.rows.now c.args.lists c.args.number made c.changed_run.result cause c.changed_run.ensures.refuses

pub returns-then-is_unchanged-clause-counted : goal.returns-then-is_unchanged-clause-counted
returns-then-is_unchanged-clause-counted g c =
    let s = c.args.arriving.now in
    let old = earlier_rows s.rows.now c.args.past.now.earlier in
    let gives = c.unchanged_run.result in
    let run : IsNodeRun s old c.args.lists c.args.number gives = returns-then-is_unchanged-clause-gives g c in
    let none = none-worked s (came_before s.rows.now old c.args.lists) c.args.number gives.again run.again c.unchanged_run.ensures.again in
    omega arith

pub returns-clause-spent : goal.returns-clause-spent
returns-clause-spent g c =
    let s = c.args.arriving.now in
    let past = c.args.past.now in
    let came = came_before s.rows.now (earlier_rows s.rows.now past.earlier) c.args.lists in
    let held = c.in-Ok.ensures in
    let blocks = c.alike_at-same.result / s.block in
    let loaded = loaded-at c.in-Ok.held s.plan.now s.rows.now c.args.number c.stream-arrivals.result.now held.ready held.plan held.rows held.number c.stream-arrivals.ensures in
    let spent = subst (λ (t : Plan × ℕ × ℕ × Stream). (node : Node) → slice_get t.0.net.nodes t.1 ≡ Some node → c.worked_lists-now.new.steps ≤ c.args.steps.now + blocks_behind t.2 node.kind (length t.3.job) blocks) (λ i. (held.plan i, held.number i, held.block i, sym c.stream-arrivals.ensures i)) c.worked_lists-now.ensures.spent in
    let worked = station-worked s came c.args.number c.get.result.now c.stream-arrivals.result.now c.get.ensures loaded c.alike_at-same.result c.len-visits.result c.len-count.result blocks
    c.requires.wave.block c.alike_at-same.ensures c.len-visits.ensures c.len-count.ensures (none-or-differs s past.earlier c.args.number c.args.lists c.requires.before c.alike_at-same.result c.len-visits.result c.len-count.result (c.is_unchanged.ensures.no c.if-is_unchanged.false)) refl in
    subst (λ n. c.worked_lists-now.new.steps ≤ c.args.steps.now + n) worked (spent c.get.result.now c.get.ensures)

pub returns-clause-counted : goal.returns-clause-counted
returns-clause-counted g c =
    let s = c.args.arriving.now in
    let past = c.args.past.now in
    let came = came_before s.rows.now (earlier_rows s.rows.now past.earlier) c.args.lists in
    let held = c.in-Ok.ensures in
    let made = c.worked_lists-now.result in
    let blocks = c.alike_at-same.result / s.block in
    let loaded = loaded-at c.in-Ok.held s.plan.now s.rows.now c.args.number c.stream-arrivals.result.now held.ready held.plan held.rows held.number c.stream-arrivals.ensures in
    let counted = subst (λ (t : Plan × ℕ × ℕ × Stream). OnOk made ((node : Node) → slice_get t.0.net.nodes t.1 ≡ Some node → c.worked_lists-now.new.steps ≡ c.args.steps.now + blocks_behind t.2 node.kind (length t.3.job) blocks)) (λ i. (held.plan i, held.number i, held.block i, sym c.stream-arrivals.ensures i)) c.worked_lists-now.ensures.counted in
    let worked = station-worked s came c.args.number c.get.result.now c.stream-arrivals.result.now c.get.ensures loaded c.alike_at-same.result c.len-visits.result c.len-count.result blocks
    c.requires.wave.block c.alike_at-same.ensures c.len-visits.ensures c.len-count.ensures (none-or-differs s past.earlier c.args.number c.args.lists c.requires.before c.alike_at-same.result c.len-visits.result c.len-count.result (c.is_unchanged.ensures.no c.if-is_unchanged.false)) refl in
    changed-ok _ c.args.lists c.counted-again.result.0 c.counted-again.result.1 made c.changed_run.result (on_ok_weaker made (λ h. h c.get.result.now c.get.ensures ∙ ap (λ n. c.args.steps.now + n) worked) counted) c.changed_run.ensures.gives

pub tail_run-gives-requires-clause-stays : goal.tail_run-gives-requires-clause-stays
tail_run-gives-requires-clause-stays g c =
    let s = c.args.arriving.now in
    let lists = c.args.lists in
    let node = c.get.result.now in
    let arrivals = c.stream-arrivals.result.now in
    let first = c.alike_at-same.result / s.block in
    let held = c.in-Ok.held in
    let h = c.in-Ok.ensures in
    let yes = c.can_redo_tail.ensures c.if-can_redo_tail.true in
    let old = earlier_rows s.rows.now c.args.past.now.earlier in
    let before = subst (λ (o : Option (Bor FormerRows)). IsNodeBefore s.plan.now (earlier_rows s.rows.now o) s.block c.args.number lists) yes.0.1 c.requires.before in
    let loaded = loaded-at held s.plan.now s.rows.now c.args.number arrivals h.ready h.plan h.rows h.number c.stream-arrivals.ensures in
    let staying = staying-by c.core_laws.ensures s.plan.now s.rows.now s.block c.args.number lists node c.get.ensures old (coming_as s.rows.now arrivals) c.alike_at-same.result first c.requires.wave.block c.requires.before c.alike_at-same.ensures refl in
    let same = subst (λ (o : Option (Bor FormerRows)). first * s.block ≤ alike node.kind (came_before s.rows.now (earlier_rows s.rows.now o) lists) (coming_as s.rows.now arrivals)) yes.0.1 staying.1.same in
    let told = c.load-load.ensures.told in
    let visits = c.len-visits.ensures in
    let count = c.len-count.ensures in
    let fewer = yes.2 in
    let longer : length lists.visits.job ≤ length arrivals.job = omega arith in (
      node.kind,
      yes.1,
      staying-load c.load-load.result s.plan.now s.rows.now c.args.number s.block arrivals
          ((λ k. (told k).0) ∙ h.plan) ((λ k. (told k).1) ∙ h.rows) ((λ k. (told k).2) ∙ h.number) ((λ k. (told k).3) ∙ sym c.stream-arrivals.ensures) (c.load-load.ensures.block ∙ h.block)
          node c.get.ensures c.requires.wave.read loaded (rows_before yes.0.0.now s.rows.now) before.0 lists before.1 first same longer,
    )

pub returns-then-can_redo_tail-clause-gives : goal.returns-then-can_redo_tail-clause-gives
returns-then-can_redo_tail-clause-gives g c =
    let s = c.args.arriving.now in
    let old = earlier_rows s.rows.now c.args.past.now.earlier in
    let came = came_before s.rows.now old c.args.lists in
    let held = c.in-Ok.ensures in
    let told = c.load-load.ensures.told in
    let loaded = loaded-at c.in-Ok.held s.plan.now s.rows.now c.args.number c.stream-arrivals.result.now held.ready held.plan held.rows held.number c.stream-arrivals.ensures in
    let again = station-again s came c.args.number c.get.result.now c.stream-arrivals.result.now c.get.ensures loaded c.alike_at-same.result c.len-visits.result c.cut.result.n c.cut.result.block c.counted-again.result.0
    c.alike_at-same.ensures c.len-visits.ensures (c.cut.ensures.0 ∙ c.len-count.ensures) c.cut.ensures.1 c.counted-again.ensures.again in
    let all = station-all s came c.args.number c.get.result.now c.stream-arrivals.result.now c.get.ensures loaded c.cut.result.n c.cut.result.block c.counted-again.result.1 (c.cut.ensures.0 ∙ c.len-count.ensures) c.cut.ensures.1 c.counted-again.ensures.all in
    IfOk-weaker c.tail_run-gives.result _ _
    (tail-gives s old c.args.lists c.args.number c.counted-again.result.0 c.counted-again.result.1 c.load-load.result
    ((λ k. (told k).0) ∙ held.plan) ((λ k. (told k).1) ∙ held.rows) (c.load-load.ensures.block ∙ held.block) ((λ k. (told k).2) ∙ held.number) again all (omega arith) (omega arith))
    c.tail_run-gives.ensures.gives

pub returns-then-can_redo_tail-clause-spent : goal.returns-then-can_redo_tail-clause-spent
returns-then-can_redo_tail-clause-spent g c =
    let s = c.args.arriving.now in
    let past = c.args.past.now in
    let came = came_before s.rows.now (earlier_rows s.rows.now past.earlier) c.args.lists in
    let held = c.in-Ok.ensures in
    let arrivals = c.stream-arrivals.result.now in
    let blocks = c.alike_at-same.result / s.block in
    let loaded = loaded-at c.in-Ok.held s.plan.now s.rows.now c.args.number arrivals held.ready held.plan held.rows held.number c.stream-arrivals.ensures in
    let worked = station-worked s came c.args.number c.get.result.now arrivals c.get.ensures loaded c.alike_at-same.result c.len-visits.result c.len-count.result blocks
    c.requires.wave.block c.alike_at-same.ensures c.len-visits.ensures c.len-count.ensures (none-or-differs s past.earlier c.args.number c.args.lists c.requires.before c.alike_at-same.result c.len-visits.result c.len-count.result (c.is_unchanged.ensures.no c.if-is_unchanged.false)) refl in
    let is = sym (tail-blocks c.get.result.now.kind (c.can_redo_tail.ensures c.if-can_redo_tail.true).1 s.block (length arrivals.job) blocks) ∙ worked in
    let spent = subst (λ (t : ℕ × Stream). c.tail_run-gives.new.steps + blocks ≤ c.args.steps.now + blocks_in t.0 (length t.1.job)) (λ i. ((c.load-load.ensures.block ∙ held.block) i, ((λ k. (c.load-load.ensures.told k).3) ∙ sym c.stream-arrivals.ensures) i)) c.tail_run-gives.ensures.spent in
    let rises = c.tail_run-gives.ensures.steps in
    omega arith

pub returns-then-can_redo_tail-clause-counted : goal.returns-then-can_redo_tail-clause-counted
returns-then-can_redo_tail-clause-counted g c =
    let s = c.args.arriving.now in
    let past = c.args.past.now in
    let came = came_before s.rows.now (earlier_rows s.rows.now past.earlier) c.args.lists in
    let held = c.in-Ok.ensures in
    let arrivals = c.stream-arrivals.result.now in
    let blocks = c.alike_at-same.result / s.block in
    let loaded = loaded-at c.in-Ok.held s.plan.now s.rows.now c.args.number arrivals held.ready held.plan held.rows held.number c.stream-arrivals.ensures in
    let worked = station-worked s came c.args.number c.get.result.now arrivals c.get.ensures loaded c.alike_at-same.result c.len-visits.result c.len-count.result blocks
    c.requires.wave.block c.alike_at-same.ensures c.len-visits.ensures c.len-count.ensures (none-or-differs s past.earlier c.args.number c.args.lists c.requires.before c.alike_at-same.result c.len-visits.result c.len-count.result (c.is_unchanged.ensures.no c.if-is_unchanged.false)) refl in
    let is = sym (tail-blocks c.get.result.now.kind (c.can_redo_tail.ensures c.if-can_redo_tail.true).1 s.block (length arrivals.job) blocks) ∙ worked in
    let counted = subst (λ (t : ℕ × Stream). OnOk c.tail_run-gives.result (c.tail_run-gives.new.steps + blocks ≡ c.args.steps.now + blocks_in t.0 (length t.1.job))) (λ i. ((c.load-load.ensures.block ∙ held.block) i, ((λ k. (c.load-load.ensures.told k).3) ∙ sym c.stream-arrivals.ensures) i)) c.tail_run-gives.ensures.counted in
    let rises = c.tail_run-gives.ensures.steps in
    on_ok_weaker c.tail_run-gives.result (λ e. omega arith) counted
