use Rattle.std.proofs.Common.{ap, arith}
use Rattle.mq_claims.specs.Seats.{Seated}
use Rattle.mq_crew.specs.Crew.{AreWorked}
use Rattle.mq_crew.proofs.Working.{both-made, both-ok}
use Rattle.mq_crew.proofs.Schedules.{both-worked}
use Rattle.mq_crew.proofs.workers.+crew.Goals as goal

pub returns-clause-made : goal.returns-clause-made
returns-clause-made g t c =
    both-made (g.P.Pieces.is_piece c.args.pieces.now) (g.P.Pieces.size c.args.pieces.now) (λ v. v.items) c.join-mine.result.0.1 c.join-mine.result.1.1 c.merged.result _ _ _
    (ap (λ (z : Seated). z.draws) c.join.ensures.joined) c.merged.ensures c.join-mine.ensures.first.2 c.join-mine.ensures.second.2

pub returns-clause-worked : goal.returns-clause-worked
returns-clause-worked g t c =
    let count = g.P.Pieces.size c.args.pieces.now in
    both-ok (λ v. v.items) (AreWorked count _) (AreWorked count _) (AreWorked count c.args.workers) c.join-mine.result.0.1 c.join-mine.result.1.1 c.merged.result _ _ _
    (ap (λ (z : Seated). z.draws) c.join.ensures.joined) c.merged.ensures (λ xs ys a b. both-worked count _ _ c.args.workers _ _ xs ys (omega arith) a b) c.join-mine.ensures.first.3 c.join-mine.ensures.second.3
