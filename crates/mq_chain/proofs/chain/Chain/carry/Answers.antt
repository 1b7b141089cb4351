use Rattle.std.proofs.Common.{◌≡◌, ◌≢◌, ◌-◌, rules, ap, arith, Some}
use Rattle.mq_chain.specs.Seats.{Chained, Seated}
use Rattle.mq_chain.proofs.Keeps.{loads, tells-none}
use Rattle.mq_chain.proofs.chain.Chain.carry.Goals as goal
use Rattle.mq_chain.proofs.chain.Chain.carry.Goals.{then-found-eq0, else-found-eq0}

pub load-found-requires : goal.load-found-requires
load-found-requires c =
    let words = c.self.invariant.0 in
    let blocks = ap (λ (z : Chained). z.blocks) c.self.view_is in
    let inside = c.requires.inside in (search rules, omega arith, loads _ _ _ _ c.args.b c.seat.invariant.0 (omega arith))

pub returns-clause-put : goal.returns-clause-put
returns-clause-put c =
    let value : c.load-found.result ≢ 0 → c.if-found-eq0.result ≡ Some (c.load-found.result - 1)
    = elim c.if-found-eq0.branch [ then-found-eq0 w ↦ λ ne. absurd (ne w.if-found-eq0.true) | else-found-eq0 w ↦ λ _. w.result-is ] in
    tells-none _ _ _ _ value (λ x ne in'. c.load-found.ensures.2.1 x (rw (ap (λ (z : Seated). z.puts) c.seat.view_is) in'))

pub returns-clause-seen : goal.returns-clause-seen
returns-clause-seen c =
    let value : c.load-found.result ≢ 0 → c.if-found-eq0.result ≡ Some (c.load-found.result - 1)
    = elim c.if-found-eq0.branch [ then-found-eq0 w ↦ λ ne. absurd (ne w.if-found-eq0.true) | else-found-eq0 w ↦ λ _. w.result-is ] in
    tells-none _ _ _ _ value (λ x ne in'. c.load-found.ensures.2.2 x ne (rw (ap (λ (z : Seated). z.looks) c.seat.view_is) in'))
