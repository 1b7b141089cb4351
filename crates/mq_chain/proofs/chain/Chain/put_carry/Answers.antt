use Rattle.std.proofs.Common.{◌≡◌, ◌<◌, ◌+◌, ◌*◌, ℕ, rules, ap, arith, List, Contains, subst}
use Rattle.mq_chain.specs.Words.{block_of}
use Rattle.mq_chain.specs.Stored.{IsNext}
use Rattle.mq_chain.specs.Seats.{Chained, Seated}
use Rattle.mq_chain.proofs.Keeps.{stores, carry-stands, may-carry}
use Rattle.mq_chain.proofs.chain.Chain.put_carry.Goals as goal

pub store-requires : goal.store-requires
store-requires c =
    let words = c.self.invariant.0 in
    let blocks = ap (λ (z : Chained). z.blocks) c.self.view_is in
    let draws = ap (λ (z : Seated). z.draws) c.seat.view_is in
    let puts = ap (λ (z : Seated). z.puts) c.seat.view_is in
    let looks = ap (λ (z : Seated). z.looks) c.seat.view_is in
    let inside = c.requires.inside in
    let block : block_of (3 * c.args.b + 3) ≡ c.args.b = omega arith in
    let within : c.args.b < c.self.inside.table.shared.key.blocks = omega arith in
    let short = c.requires.short in
    let next : IsNext c.seat.inside.seat.me.0.puts c.seat.inside.seat.me.0.looks c.args.b c.args.carry = rw (puts, looks) c.requires.next in (
      search rules,
      omega arith,
      stores _ _ _ c.seat.inside.seat.me _ _ (omega arith) (omega arith) (omega arith) (omega arith)
          (rw (draws, block) c.requires.drew)
          (λ y in'. c.requires.fresh y (subst (λ (z : List (ℕ × ℕ)). Contains z (3 * c.args.b + 3, y)) puts in'))
          (carry-stands _ _ c.seat.inside.seat.me c.args.b c.args.carry within next)
          (may-carry _ _ c.seat.inside.seat.me c.args.b c.args.carry next),
    )
