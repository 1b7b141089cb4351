use Rattle.std.proofs.Common.{◌∙◌, ◌++◌, ◌==◌, [], ◌∷◌, ap, append_assoc, sym}
use Rattle.mq_redo.specs.Branches.{begins_with}
use Rattle.mq_redo.proofs.Begins.{servers-more}
use Rattle.mq_redo.proofs.forkjoins.push_begins.Goals as goal

pub loop-server-preserved : goal.loop-server-preserved
loop-server-preserved c =
    let before = c.args.begins.now.items in
    let n = c.loop-server.server in
    c.in_ok-push.ensures.items ∙ ((λ i. c.loop-server.invariant i ++ (n == 0) ∷ []) ∙ (append_assoc before (begins_with n) ((n == 0) ∷ []) ∙ ap (λ bs. before ++ bs) (sym (servers-more n))))
