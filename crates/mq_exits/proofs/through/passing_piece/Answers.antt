use Rattle.std.proofs.Common.{◌≡◌, ℕ, List, Some, ap, sym, ◌∙◌, subst, arith}
use Rattle.std.specs.Prelude.{slice_get}
use Rattle.mq_kinds.specs.declared.pieces.Piece.TheVariants.{Numbers}
use Rattle.mq_exits.specs.Keeping.{turn_pieces}
use Rattle.mq_exits.proofs.Passing.{none-found}
use Rattle.mq_exits.proofs.through.passing_piece.Goals as goal

pub returns : goal.returns
returns c =
    let a = c.args.load.now.arrivals.now in
    let one : c.args.b ≡ 1 = omega arith in
    subst (λ b. slice_get (turn_pieces a a.time) b ≡ Some (Numbers c.in_ok-nobody.field-0)) (sym one)
    (ap (λ (found : List ℕ). Some (Numbers found)) (sym (c.in_ok-nobody.ensures ∙ sym (none-found a.time c.requires.loaded.load.ordered.ordered.rising))))
