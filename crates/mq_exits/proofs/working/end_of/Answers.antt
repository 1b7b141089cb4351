use Rattle.std.proofs.Common.{◌≡◌, ◌∙◌, sym, subst, true}
use Rattle.mq_base.proofs.lemmas.Lists.{some_inj}
use Rattle.mq_core.specs.SequenceLaws.{sends_once}
use Rattle.mq_core.specs.declared.model.Node.{Node}
use Rattle.mq_exits.specs.Afters.{IsAfterAt}
use Rattle.mq_exits.proofs.Leavings.{seen-result}
use Rattle.mq_exits.proofs.working.end_of.Goals as goal

pub returns-in-Seen : goal.returns-in-Seen
returns-in-Seen c plan rows v loaded h node there =
    let after = subst (IsAfterAt plan rows v c.args.arrivals) c.in-Seen.is h node there in
    let once = subst (λ (n : Node). sends_once n.kind ≡ true) (some_inj loaded.node node (sym loaded.there ∙ there)) loaded.once in
    (seen-result c.sequences_go_by_fates.ensures plan.net rows v node.kind c.args.arrivals c.in-Seen.fate c.in-Seen.found c.in-Seen.streams once after.0 after.1, after.0.none)

pub returns-in-Missed : goal.returns-in-Missed
returns-in-Missed c plan rows v loaded h node there = subst (IsAfterAt plan rows v c.args.arrivals) c.in-Missed.is h node there
