use Rattle.std.proofs.Common.{◌∙◌, List, ℕ, ap, arith, eqb-true, filter, subst, sym}
use Rattle.std.specs.List.{AllByRecursion}
use Rattle.std.specs.Prelude.{slice_get}
use Rattle.std.proofs.lemmas.Result.{IfOk-weaker}
use Rattle.mq_engine.specs.Counting.{IsToldAmong}
use Rattle.mq_engine.specs.Progress.{AreEarly, HasAll, is_ready}
use Rattle.mq_engine.proofs.Endings.{within}
use Rattle.mq_engine.proofs.Lists.{filter-passes, no-items}
use Rattle.mq_engine.proofs.Kept.{counting-has}
use Rattle.mq_engine.proofs.Settling.{ready-few}
use Rattle.mq_engine.proofs.counted.told_next.Goals as goal

pub ready_nodes-requires-clause-within : goal.ready_nodes-requires-clause-within
ready_nodes-requires-clause-within g c = within c.requires.laws c.args.plan.now

pub returns-then-is_empty-clause-stuck : goal.returns-then-is_empty-clause-stuck
returns-then-is_empty-clause-stuck g c none =
    let empty = eqb-true _ _ (sym c.is_empty.ensures ∙ c.if-is_empty.true) in
    let size = c.in_ok-ready.ready.ok.0 in
    sym (c.in_ok-ready.ensures ∙ ap (λ stands. filter (is_ready c.args.plan.now.net.nodes stands) c.args.plan.now.order) c.deref.ensures.value) ∙ no-items c.in_ok-ready.ready.items (omega arith)

pub told_ready-requires-clause-few : goal.told_ready-requires-clause-few
told_ready-requires-clause-few g c κs inside =
    ready-few c.args.plan.now c.args.counting.now.stands.items c.deref-3.result.now
    (c.deref-3.ensures.value ∙ (c.in_ok-ready.ensures ∙ ap (λ stands. filter (is_ready c.args.plan.now.net.nodes stands) c.args.plan.now.order) c.deref.ensures.value))

pub told_ready-requires-clause-wave : goal.told_ready-requires-clause-wave
told_ready-requires-clause-wave g c κs inside =
    let counting = c.args.counting.now in
    let same = sym (c.deref-3.ensures.value ∙ (c.in_ok-ready.ensures ∙ ap (λ stands. filter (is_ready c.args.plan.now.net.nodes stands) c.args.plan.now.order) c.deref.ensures.value)) in
    record {
      read = c.requires.read;
      early = subst AreEarly (sym c.deref-2.ensures.value) c.requires.counting.early;
      all = λ k v e.
          let passes = filter-passes (is_ready c.args.plan.now.net.nodes counting.stands.items) c.args.plan.now.order k v (ap (λ l. slice_get l k) same ∙ e) in
          subst (λ outputs. HasAll c.args.plan.now c.args.rows.now outputs v) (sym c.deref-2.ensures.value)
          (counting-has c.requires.laws c.args.plan.now c.args.rows.now c.args.form counting.counts.items counting.outputs.items counting.stands.items v c.requires.read c.requires.counting passes);
      block = c.requires.block;
    }

pub returns-clause-told : goal.returns-clause-told
returns-clause-told g c =
    IfOk-weaker c.told_ready.result _ _
    (λ told h. subst (λ (l : List ℕ). AllByRecursion (IsToldAmong c.args.plan.now c.args.rows.now c.args.form l) told)
    (c.deref-3.ensures.value ∙ (c.in_ok-ready.ensures ∙ ap (λ stands. filter (is_ready c.args.plan.now.net.nodes stands) c.args.plan.now.order) c.deref.ensures.value)) h) c.told_ready.ensures.told
