use Rattle.std.proofs.Common.{◌≤◌, ℕ, rules, ap, subst}
use Rattle.mq_chain.specs.Seats.{Chained, Seated}
use Rattle.mq_claims.proofs.Weighs.{late-none}
use Rattle.mq_chain.proofs.Keeps.{splits}
use Rattle.mq_chain.proofs.chain.Chain.split_by.Goals as goal

pub split_seat-seat-requires : goal.split_seat-seat-requires
split_seat-seat-requires g c =
    let right = ap (λ (z : Seated). z.right) c.seat.view_is in (
      search rules,
      search rules,
      splits _ _ _ _ (subst (λ (z : ℕ). 1 ≤ z) c.requires.share c.requires.some) (rw (right, ← c.requires.share) c.requires.rest)
          (rw (ap (λ (z : Chained). z.blocks) c.self.view_is, ap (λ (z : Seated). z.draws) c.seat.view_is) (late-none _ _ c.requires.early)),
    )
