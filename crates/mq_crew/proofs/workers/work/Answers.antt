use Rattle.std.proofs.Common.{◌≡◌, ◌≤◌, ◌<◌, ℕ, arith, List, ap, subst, sym, length, ◌++◌, ◌∷◌, [], length-append, ◌∙◌, ◌+◌, is_ok, not, true}
use Rattle.mq_claims.specs.Seats.{Seated}
use Rattle.mq_crew.specs.Crew.{AreWorked, IsMadeOf, Rise}
use Rattle.mq_crew.proofs.Schedules.{one-worked, rise-more}
use Rattle.mq_crew.proofs.Working.{IsWorking, works-ended, works-more}
use Rattle.mq_crew.proofs.workers.work.Goals as goal

pub returns-then-number-count-clause-made : goal.returns-then-number-count-clause-made
returns-then-number-count-clause-made g c =
    let w = c.draws.invariant.3 in
    let drew = ap (λ (z : Seated). z.draws) c.claim-number.ensures.drawn in
    let count = c.draws.invariant.2 in
    subst (λ (ds : List ℕ). IsMadeOf (g.P.Pieces.is_piece c.args.pieces.now) (g.P.Pieces.size c.args.pieces.now) ds c.draws.made.items) (sym drew)
    (works-ended (g.P.Pieces.is_piece c.args.pieces.now) _ c.draws.seat.draws _ c.claim-number.result w (omega arith))

pub returns-then-number-count-clause-worked : goal.returns-then-number-count-clause-worked
returns-then-number-count-clause-worked g c =
    let w = c.draws.invariant.3 in
    let drew = ap (λ (z : Seated). z.draws) c.claim-number.ensures.drawn in
    let count = c.draws.invariant.2 in
    subst (λ (ds : List ℕ). AreWorked (g.P.Pieces.size c.args.pieces.now) 1 ds c.draws.made.items) (sym drew)
    (one-worked _ c.draws.seat.draws c.draws.made.items c.claim-number.result w.each w.early c.draws.invariant.4 c.claim-number.ensures.fresh (omega arith))

pub draws-smaller : goal.draws-smaller
draws-smaller g c =
    let w = c.draws.invariant.3 in
    let drew : c.claim-number.new.seat.draws ≡ c.draws.seat.draws ++ c.claim-number.result ∷ [] = ap (λ (z : Seated). z.draws) c.claim-number.ensures.drawn in
    let long : length c.draws.seat.draws ≤ c.claim-number.result = w.long c.claim-number.result c.claim-number.ensures.fresh in
    let more : length c.claim-number.new.seat.draws ≡ length c.draws.seat.draws + 1 = ap length drew ∙ length-append c.draws.seat.draws (c.claim-number.result ∷ []) in
    let less : c.claim-number.result < c.count-count.result = c.if-number-count.false in
    omega arith

pub draws-preserved : goal.draws-preserved
draws-preserved g c =
    let w = c.draws.invariant.3 in
    let table = ap (λ (z : Seated). z.table) c.claim-number.ensures.drawn in
    let right = ap (λ (z : Seated). z.right) c.claim-number.ensures.drawn in
    let drew = ap (λ (z : Seated). z.draws) c.claim-number.ensures.drawn in
    let count = c.draws.invariant.2 in
    let pushed : c.push.new.self.items ≡ c.draws.made.items ++ (c.claim-number.result, c.in-Ok.piece) ∷ [] = let ok : is_ok c.push.result ≡ true = c.is_err.ensures.negation ∙ ap not c.if-is_err.false in rw ok at c.push.ensures.items in (
      table ∙ c.draws.invariant.0,
      right ∙ c.draws.invariant.1,
      count,
      subst (λ (z : List ℕ × List (ℕ × g.row.P-Piece.Denot)). IsWorking (g.P.Pieces.is_piece c.args.pieces.now) (g.P.Pieces.size c.args.pieces.now) z.0 z.1) (λ i. (sym drew i, sym pushed i))
          (works-more (g.P.Pieces.is_piece c.args.pieces.now) _ c.draws.seat.draws c.draws.made.items c.claim-number.result c.in-Ok.piece w c.claim-number.ensures.fresh (omega arith) c.in-Ok.ensures),
      subst Rise (sym drew) (rise-more c.draws.seat.draws c.claim-number.result c.draws.invariant.4 c.claim-number.ensures.fresh),
    )
