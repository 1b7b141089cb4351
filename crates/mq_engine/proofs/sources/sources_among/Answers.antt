use Rattle.std.proofs.Common.{◌≡◌, ◌∙◌, ◌∷◌, ◌++◌, [], ap, arith, get_or, length, length-append, subst, sym}
use Rattle.std.specs.List.{AllByRecursion as Each}
use Rattle.mq_base.proofs.lemmas.Each.{Each-append}
use Rattle.mq_base.proofs.lemmas.Lists.{some_inj}
use Rattle.mq_core.specs.Wiring.{is_source_kind}
use Rattle.mq_core.specs.declared.model.Node.{Node}
use Rattle.mq_engine.specs.Sources.{IsSourceAmong}
use Rattle.mq_engine.proofs.Telling.{contains-at}
use Rattle.mq_engine.proofs.sources.sources_among.Goals as goal
use Rattle.mq_engine.proofs.sources.sources_among.Goals.{then-is_source+in_ok-push, else-is_source}

pub get-requires : goal.get-requires
get-requires c = c.requires _ (contains-at c.args.ready.now c.loop-at.at 0 c.loop-at-test.true)

pub loop-at-preserved : goal.loop-at-preserved
loop-at-preserved c =
    let ready = c.args.ready.now in
    let v = get_or ready c.loop-at.at 0 in
    let few = c.loop-at.invariant.few in
    let is = IsSourceAmong c.args.plan.now ready in
    elim c.if-is_source.branch [
      | then-is_source+in_ok-push w ↦ (
          let node = c.get.result.now in
          let pushed : c.if-is_source.sources.items ≡ w.push.new.self.items = λ i. (w.sources-is i).items in
          let grown : c.if-is_source.sources.items ≡ c.loop-at.sources.items ++ v ∷ [] = pushed ∙ w.in_ok-push.ensures.items in
          let more = ap length grown in
          let one = length-append c.loop-at.sources.items (v ∷ []) in
          let own : is v = (contains-at ready c.loop-at.at 0 c.loop-at-test.true, λ other there. ap (λ (n : Node). is_source_kind n.kind) (some_inj other node (sym there ∙ c.get.ensures)) ∙ (sym c.is_source.ensures ∙ w.if-is_source.true)) in
          record {
            few = omega arith;
            each = subst (Each is) (sym grown) (Each-append is c.loop-at.sources.items (v ∷ []) c.loop-at.invariant.each (own, tt));
          })
      | else-is_source w ↦ (
          let same : c.if-is_source.sources.items ≡ c.loop-at.sources.items = λ i. (w.sources-is i).items in
          let many = ap length same in
          record {
            few = omega arith;
            each = subst (Each is) (sym same) c.loop-at.invariant.each;
          })
    ]
