use Rattle.std.proofs.Common.{List, subst, sym}
use Rattle.mq_crew.specs.Crew.{AreAll}
use Rattle.mq_kinds.specs.Pieces.{numbers_in}
use Rattle.mq_kinds.specs.declared.pieces.Piece.{Piece}
use Rattle.mq_kinds.proofs.Forms.{contents-are}
use Rattle.mq_exits.specs.Keeping.{IsDelayPiece, IsFoundBlock, founds_by}
use Rattle.mq_exits.proofs.founds.all_found.Goals as goal

pub founds_joined-found-requires-clause-parts : goal.founds_joined-found-requires-clause-parts
founds_joined-found-requires-clause-parts c =
    let arrivals = c.args.arrivals.now in
    let o = c.args.overtaken.now in
    let are = IsFoundBlock (founds_by arrivals o.departs) o.blocks in
    let made = subst (λ (l : List Piece). AreAll (IsDelayPiece arrivals o) o.blocks.blocks l) (sym c.from_vec.ensures) c.requires.made in
    subst (AreAll are o.blocks.blocks) (sym c.in_ok-parts.ensures) (contents-are numbers_in are o.blocks.blocks _ made)
