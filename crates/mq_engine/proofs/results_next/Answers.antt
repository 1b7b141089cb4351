use Rattle.std.proofs.Common.{◌∙◌, List, ℕ, ap, arith, eqb-true, filter, length, subst, sym}
use Rattle.std.specs.List.{AllByRecursion}
use Rattle.std.specs.Prelude.{slice_get}
use Rattle.std.proofs.lemmas.Result.{IfOk-weaker}
use Rattle.mq_exits.specs.Results.{IsResultOf}
use Rattle.mq_engine.specs.Progress.{AreEarly, HasAll, is_ready}
use Rattle.mq_engine.proofs.Endings.{within}
use Rattle.mq_engine.proofs.Lists.{filter-passes, no-items, one-at-least}
use Rattle.mq_engine.proofs.Waves.{has-all}
use Rattle.mq_engine.proofs.Settling.{ready-few}
use Rattle.mq_engine.proofs.results_next.Goals as goal

pub ready_nodes-requires-clause-within : goal.ready_nodes-requires-clause-within
ready_nodes-requires-clause-within g c = within c.requires.laws c.args.plan.now

pub ready_nodes-requires-clause-count : goal.ready_nodes-requires-clause-count
ready_nodes-requires-clause-count g c = ap length c.deref.ensures.value ∙ c.requires.reached.stand

pub returns-then-is_empty-clause-stuck : goal.returns-then-is_empty-clause-stuck
returns-then-is_empty-clause-stuck g c none =
    let empty = eqb-true _ _ (sym c.is_empty.ensures ∙ c.if-is_empty.true) in
    let size = c.in_ok-ready.ready.ok.0 in
    sym (c.in_ok-ready.ensures ∙ ap (λ stands. filter (is_ready c.args.plan.now.net.nodes stands) c.args.plan.now.order) c.deref.ensures.value) ∙ no-items c.in_ok-ready.ready.items (omega arith)

pub wave_of-requires-clause-few : goal.wave_of-requires-clause-few
wave_of-requires-clause-few g c κs inside =
    ready-few c.args.plan.now c.args.progress.now.stands.items c.deref-3.result.now
    (c.deref-3.ensures.value ∙ (c.in_ok-ready.ensures ∙ ap (λ stands. filter (is_ready c.args.plan.now.net.nodes stands) c.args.plan.now.order) c.deref.ensures.value))

pub wave_of-requires-clause-wave : goal.wave_of-requires-clause-wave
wave_of-requires-clause-wave g c κs inside =
    let progress = c.args.progress.now in
    let same = sym (c.deref-3.ensures.value ∙ (c.in_ok-ready.ensures ∙ ap (λ stands. filter (is_ready c.args.plan.now.net.nodes stands) c.args.plan.now.order) c.deref.ensures.value)) in
    record {
      read = c.requires.read;
      early = subst AreEarly (sym c.deref-2.ensures.value) c.requires.reached.early;
      all = λ k v e.
          let passes = filter-passes (is_ready c.args.plan.now.net.nodes progress.stands.items) c.args.plan.now.order k v (ap (λ l. slice_get l k) same ∙ e) in
          subst (λ outputs. HasAll c.args.plan.now c.args.rows.now outputs v) (sym c.deref-2.ensures.value)
          (has-all c.requires.laws c.args.plan.now c.args.rows.now progress.visits.items progress.outputs.items progress.stands.items v c.requires.read c.requires.reached passes);
      block = c.requires.block;
    }

pub finished-requires : goal.finished-requires
finished-requires g c = (c.args.plan.now, c.args.rows.now, c.deref-3.result.now, c.in_ok-given.ensures.known)

pub returns-clause-stuck : goal.returns-clause-stuck
returns-clause-stuck g c =
    let some = one-at-least _ (sym c.is_empty.ensures ∙ c.if-is_empty.false) in
    let size = c.in_ok-ready.ready.ok.0 in
    let same = ap length c.deref-3.ensures.value in
    let len = c.in_ok-given.ensures.len in
    IfOk-weaker c.finished.result _ _ (λ results e none. absurd (let all = e in omega arith)) c.finished.ensures.len

pub returns-clause-known : goal.returns-clause-known
returns-clause-known g c =
    IfOk-weaker c.finished.result _ _
    (λ results h. subst (λ (l : List ℕ). AllByRecursion (IsResultOf c.args.plan.now c.args.rows.now l) results)
    (c.deref-3.ensures.value ∙ (c.in_ok-ready.ensures ∙ ap (λ stands. filter (is_ready c.args.plan.now.net.nodes stands) c.args.plan.now.order) c.deref.ensures.value))
    (h c.args.plan.now c.args.rows.now c.deref-3.result.now c.in_ok-given.ensures.known)) c.finished.ensures.known
