use Rattle.std.proofs.Common.{sym, subst}
use Rattle.std.proofs.lemmas.Result.{IfOk-weaker}
use Rattle.mq_core.specs.declared.model.Kind.{Kind}
use Rattle.mq_join.specs.Gathers.{came_to}
use Rattle.mq_engine.specs.Apart.{AreSequences}
use Rattle.mq_engine.proofs.gathering.sequences_of.Goals as goal

pub returns-in-Fork : goal.returns-in-Fork
returns-in-Fork c = IfOk-weaker c.forked.result _ _ (λ all h rows. subst (λ (k : Kind). AreSequences rows k (came_to c.args.gathered.now) all.visits all.streams) (sym c.in-Fork.is) (h rows)) c.forked.ensures

pub returns-in-Join : goal.returns-in-Join
returns-in-Join c = IfOk-weaker c.joined.result _ _ (λ all h rows. subst (λ (k : Kind). AreSequences rows k (came_to c.args.gathered.now) all.visits all.streams) (sym c.in-Join.is) (h rows)) c.joined.ensures
