use Rattle.std.proofs.Common.{arith, ◌<◌, ℕ, ◌∙◌, subst, sym, All}
use Rattle.std.proofs.lemmas.Result.{IfOk-at_ok, IfOk-weaker}
use Rattle.mq_crew.specs.Crew.{AreWorked, IsMadeOf}
use Rattle.mq_crew.proofs.Working.{all-made, made-within, all-placed}
use Rattle.mq_crew.proofs.Schedules.{all-recorded}
use Rattle.mq_crew.proofs.crew.Crew.run_pieces.Goals as goal

pub placed-requires-clause-each : goal.placed-requires-clause-each
placed-requires-clause-each g c =
    let made : IsMadeOf (g.P.Pieces.is_piece c.args.pieces.now) (g.P.Pieces.size c.args.pieces.now) c.crew-seat.result.0.draws c.in_ok-made.field-0.items
    = IfOk-at_ok (λ v. IsMadeOf (g.P.Pieces.is_piece c.args.pieces.now) (g.P.Pieces.size c.args.pieces.now) c.crew-seat.result.0.draws v.items) c.in_ok-made.was c.crew-seat.ensures.made in
    λ x lt. all-made _ _ _ _ c.close.ensures made x (subst (λ (n : ℕ). x < n) c.count-count.ensures lt)

pub placed-requires-clause-within : goal.placed-requires-clause-within
placed-requires-clause-within g c =
    let made : IsMadeOf (g.P.Pieces.is_piece c.args.pieces.now) (g.P.Pieces.size c.args.pieces.now) c.crew-seat.result.0.draws c.in_ok-made.field-0.items
    = IfOk-at_ok (λ v. IsMadeOf (g.P.Pieces.is_piece c.args.pieces.now) (g.P.Pieces.size c.args.pieces.now) c.crew-seat.result.0.draws v.items) c.in_ok-made.was c.crew-seat.ensures.made in
    subst (λ (n : ℕ). All (λ (p : ℕ × g.row.P-Piece.Denot). p.0 < n) c.in_ok-made.field-0.items) (sym c.count-count.ensures) (made-within _ _ _ _ made)

pub returns-clause-all : goal.returns-clause-all
returns-clause-all g c =
    let made : IsMadeOf (g.P.Pieces.is_piece c.args.pieces.now) (g.P.Pieces.size c.args.pieces.now) c.crew-seat.result.0.draws c.in_ok-made.field-0.items
    = IfOk-at_ok (λ v. IsMadeOf (g.P.Pieces.is_piece c.args.pieces.now) (g.P.Pieces.size c.args.pieces.now) c.crew-seat.result.0.draws v.items) c.in_ok-made.was c.crew-seat.ensures.made in
    all-placed (g.P.Pieces.is_piece c.args.pieces.now) _ _ _ made.pieces
    (IfOk-weaker c.placed.result _ _ (λ l h. h ∙ c.count-count.ensures) c.placed.ensures.len)
    (IfOk-weaker c.placed.result _ _ (λ l h x d lt. h x d (subst (λ (n : ℕ). x < n) (sym c.count-count.ensures) lt)) c.placed.ensures.own)

pub returns-clause-recorded : goal.returns-clause-recorded
returns-clause-recorded g c =
    let worked : AreWorked (g.P.Pieces.size c.args.pieces.now) c.max-workers.result c.crew-seat.result.0.draws c.in_ok-made.field-0.items
    = IfOk-at_ok (λ v. AreWorked (g.P.Pieces.size c.args.pieces.now) c.max-workers.result c.crew-seat.result.0.draws v.items) c.in_ok-made.was c.crew-seat.ensures.worked in
    let least = c.min.ensures in
    let most = c.max-workers.ensures in
    let size = c.count-count.ensures in
    all-recorded _ _ _ _ _ c.placed.result (omega (arith, most)) (omega (arith, least, most)) (omega (arith, least, most, size)) worked c.close.ensures
    (IfOk-weaker c.placed.result _ _ (λ l h x d lt. h x d (subst (λ (n : ℕ). x < n) (sym c.count-count.ensures) lt)) c.placed.ensures.own)
