use Rattle.std.proofs.Common.{inl, refl, sym, subst}
use Rattle.mq_engine.specs.Progress.{AreWaiting, AreWorkedOut}
use Rattle.mq_engine.proofs.Settling.{settling-inside, settling-more}
use Rattle.mq_engine.proofs.progress.settle.Goals as goal

pub loop-node_result-init : goal.loop-node_result-init
loop-node_result-init c =
    record {
      stand = refl;
      came = c.requires.came;
      left = c.requires.left;
      waits = subst (AreWaiting c.args.progress.now.stands.items) (sym c.into_vec-results.ensures) c.requires.waits;
      reached = λ plan rows r w. (r, w);
      fewer = inl (refl, refl);
    }

pub put-requires-clause-came : goal.put-requires-clause-came
put-requires-clause-came c = (settling-inside _ _ _ _ _ _ _ _ _ c.in-Some.node_result c.loop-node_result.invariant c.in-Some.ensures.items).0

pub put-requires-clause-left : goal.put-requires-clause-left
put-requires-clause-left c = (settling-inside _ _ _ _ _ _ _ _ _ c.in-Some.node_result c.loop-node_result.invariant c.in-Some.ensures.items).1

pub put-requires-clause-stand : goal.put-requires-clause-stand
put-requires-clause-stand c = (settling-inside _ _ _ _ _ _ _ _ _ c.in-Some.node_result c.loop-node_result.invariant c.in-Some.ensures.items).2

pub loop-node_result-preserved : goal.loop-node_result-preserved
loop-node_result-preserved c = settling-more _ _ _ _ _ _ _ _ _ _ _ _ c.in-Some.node_result c.loop-node_result.invariant c.in-Some.ensures.items c.put.ensures

pub returns-clause-reached : goal.returns-clause-reached
returns-clause-reached c plan rows r w = (c.loop-node_result.invariant.reached plan rows r (subst (AreWorkedOut plan rows) (sym c.into_vec-results.ensures) w)).0
