use Rattle.std.proofs.Common.{subst}
use Rattle.mq_crew.specs.Crew.{AreAll}
use Rattle.mq_exits.specs.Keeping.{IsOwnPiece, own_size}
use Rattle.mq_exits.specs.declared.keeping.Keeping.{Keeping}
use Rattle.mq_exits.proofs.keeping.after_of.Goals as goal

pub after_turn-requires-clause-made : goal.after_turn-requires-clause-made
after_turn-requires-clause-made c =
    let load = c.args.load.now in
    subst (λ (k : Keeping). AreAll (IsOwnPiece load.plan.now load.rows.now load.number load.arrivals.now k) (own_size k) c.args.made.items) c.in-InTurn.is c.requires.made

pub after_delay-requires-clause-made : goal.after_delay-requires-clause-made
after_delay-requires-clause-made c =
    let load = c.args.load.now in
    subst (λ (k : Keeping). AreAll (IsOwnPiece load.plan.now load.rows.now load.number load.arrivals.now k) (own_size k) c.args.made.items) c.in-Overtaking.is c.requires.made

pub after_passing-requires-clause-made : goal.after_passing-requires-clause-made
after_passing-requires-clause-made c =
    let load = c.args.load.now in
    subst (λ (k : Keeping). AreAll (IsOwnPiece load.plan.now load.rows.now load.number load.arrivals.now k) (own_size k) c.args.made.items) c.in-Passing.is c.requires.made

pub after_settled-requires : goal.after_settled-requires
after_settled-requires c =
    let load = c.args.load.now in
    subst (λ (k : Keeping). AreAll (IsOwnPiece load.plan.now load.rows.now load.number load.arrivals.now k) (own_size k) c.args.made.items) c.in-Settled.is c.requires.made
