use Rattle.std.proofs.Common.{sym, subst}
use Rattle.mq_kept.specs.Formers.{CanComeBack}
use Rattle.mq_kept.proofs.again.undone.Goals as goal

pub returns-clause-back : goal.returns-clause-back
returns-clause-back c = λ before can. c.come_back.ensures before (subst (CanComeBack before c.args.worked.nodes) (sym c.as_mut_slice.ensures.value) can)
