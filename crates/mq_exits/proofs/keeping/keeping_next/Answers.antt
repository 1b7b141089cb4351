use Rattle.std.proofs.Common.{◌∙◌, List, refl, sym, ap, subst}
use Rattle.mq_core.specs.declared.model.Stream.{Stream}
use Rattle.mq_crew.specs.Crew.{AreAll}
use Rattle.mq_kinds.specs.declared.pieces.Piece.{Piece}
use Rattle.mq_merge.specs.Borrowed.{stream_in}
use Rattle.mq_merge.specs.declared.arrivals.Arrivals.{Arrivals}
use Rattle.mq_exits.specs.Keeping.{IsEndBy, IsKeepingPiece, IsOwnPiece, keeping_size, own_size}
use Rattle.mq_exits.specs.Loads.{IsLoaded}
use Rattle.mq_exits.specs.declared.keeping.Keeping.{Keeping}
use Rattle.mq_exits.specs.declared.load.Held.{Held}
use Rattle.mq_exits.proofs.Turning.{ends-moved}
use Rattle.mq_exits.proofs.keeping.keeping_next.Goals as goal

pub taken-arrivals-requires : goal.taken-arrivals-requires
taken-arrivals-requires c =
    let held = c.args.held.now in (
      held.plan.now,
      held.rows.now,
      held.number,
      c.replace-keeping.result,
      subst (λ (z : Arrivals × Keeping × List Piece). AreAll (IsKeepingPiece held.plan.now held.rows.now held.number z.0 z.1) (keeping_size z.0 z.1) z.2)
          (λ k. (sym c.replace-came.ensures.value k, sym c.replace-keeping.ensures.value k, sym c.into_vec-made.ensures k)) c.requires.made,
    )

pub after_of-requires-clause-made : goal.after_of-requires-clause-made
after_of-requires-clause-made c =
    let held = c.args.held.now in
    let whole = subst (λ (z : Arrivals × Keeping × List Piece). AreAll (IsKeepingPiece held.plan.now held.rows.now held.number z.0 z.1) (keeping_size z.0 z.1) z.2)
    (λ k. (sym c.replace-came.ensures.value k, sym c.replace-keeping.ensures.value k, sym c.into_vec-made.ensures k)) c.requires.made in
    subst (λ (s : Stream). AreAll (IsOwnPiece held.plan.now held.rows.now held.number s c.replace-keeping.result) (own_size c.replace-keeping.result) c.taken-arrivals.new.made.items) (sym c.taken-arrivals.ensures.stream)
    (c.taken-arrivals.ensures.made held.plan.now held.rows.now held.number c.replace-keeping.result whole)

pub returns-in-Ok-clause-end : goal.returns-in-Ok-clause-end
returns-in-Ok-clause-end c keep =
    let held = c.args.held.now in
    let came = c.taken-arrivals.ensures.stream ∙ ap stream_in c.replace-came.ensures.value in
    let loaded = subst (IsLoaded held.plan.now held.rows.now held.number) (sym came) c.requires.ready.1 in
    let by = subst (λ (s : Stream). IsEndBy held.plan.now held.rows.now held.number s c.end_of.result) came (c.end_of.ensures held.plan.now held.rows.now held.number loaded c.in-Ok.ensures) in
    let moved : Held = record { plan = held.plan; rows = held.rows; number = held.number; arrivals = c.replace-came.new.dest; block = held.block } in
    ends-moved c.node_laws.ensures held c.requires.ready moved refl c.end_of.result by keep
