use Rattle.std.proofs.Common.{ap, arith, subst}
use Rattle.std.specs.List.{AllByRecursion}
use Rattle.mq_base.proofs.lemmas.Each.{Each-drop}
use Rattle.mq_crew.specs.Crew.{total_size}
use Rattle.mq_crew.proofs.Grouping.{part-here}
use Rattle.mq_crew.proofs.parts.PartsPieces.count.Goals as goal

pub parts-init : goal.parts-init
parts-init g c = omega arith

pub count-count-requires : goal.count-count-requires
count-count-requires g c =
    let parts = c.args.self.now.parts.now in
    let here = part-here g.P.Pieces.size g.P.Pieces.is_piece parts c.parts.part-index c.part-item.result c.parts-test.true c.part-item.is in
    (subst (AllByRecursion g.P.Pieces.fit) here (Each-drop g.P.Pieces.fit c.parts.part-index parts c.requires.0)).0

pub overflow_add-count : goal.overflow_add-count
overflow_add-count g c =
    let parts = c.args.self.now.parts.now in
    let here = ap (total_size g.P.Pieces.size) (part-here g.P.Pieces.size g.P.Pieces.is_piece parts c.parts.part-index c.part-item.result c.parts-test.true c.part-item.is) in
    omega (arith, here, c.parts.invariant, c.count-count.ensures, c.requires.1)

pub parts-preserved : goal.parts-preserved
parts-preserved g c =
    let parts = c.args.self.now.parts.now in
    let here = ap (total_size g.P.Pieces.size) (part-here g.P.Pieces.size g.P.Pieces.is_piece parts c.parts.part-index c.part-item.result c.parts-test.true c.part-item.is) in
    omega (arith, here, c.parts.invariant, c.count-count.ensures)
