use Rattle.std.proofs.Common.{[], ◌∷◌}
use Rattle.mq_engine.proofs.Placing.{alone, alone-known}
use Rattle.mq_engine.proofs.ready.worked_out.Goals as goal

pub ended_in-requires : goal.ended_in-requires
ended_in-requires g c =
    let held = c.args.held in
    (held.plan.now, held.rows.now, held.number ∷ [], alone held c.advance.new.place c.given_at.result c.in-Ok-advance.ensures.same c.in-Ok-advance.ensures.fit c.given_at.ensures)

pub returns : goal.returns
returns g c =
    let held = c.args.held in
    alone-known held c.given_at.result c.ended_in.result (alone held c.advance.new.place c.given_at.result c.in-Ok-advance.ensures.same c.in-Ok-advance.ensures.fit c.given_at.ensures) c.ended_in.ensures
