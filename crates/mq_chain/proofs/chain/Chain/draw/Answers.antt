use Rattle.std.proofs.Common.{rules, ap}
use Rattle.mq_claims.proofs.Weighs.{late-none}
use Rattle.mq_chain.specs.Seats.{Chained, Seated}
use Rattle.mq_chain.proofs.Keeps.{draws}
use Rattle.mq_chain.proofs.chain.Chain.draw.Goals as goal

pub fetch_add-requires : goal.fetch_add-requires
fetch_add-requires c = (
  search rules,
  search rules,
  draws _ _ _ _ c.seat.invariant.0 (rw (ap (λ (z : Chained). z.blocks) c.self.view_is, ap (λ (z : Seated). z.draws) c.seat.view_is) (late-none _ _ c.requires.early)),
)
