use Rattle.std.proofs.Common.{◌+◌, ◌-◌, ◌<◌, List, ℕ, ap, arith, drop, subst, sym}
use Rattle.std.specs.List.{AllByRecursion}
use Rattle.std.proofs.lemmas.Result.{IfOk-weaker}
use Rattle.mq_base.proofs.lemmas.Each.{Each-drop}
use Rattle.mq_crew.specs.Crew.{IsPieceOf, total_size}
use Rattle.mq_crew.proofs.Grouping.{part-here}
use Rattle.mq_crew.proofs.parts.PartsPieces.piece.Goals as goal

pub parts-init : goal.parts-init
parts-init g c = record { inside = c.requires.inside; leads = λ piece h. h }

pub count-count-requires : goal.count-count-requires
count-count-requires g c =
    let parts = c.args.self.now.parts.now in
    let here = part-here g.P.Pieces.size g.P.Pieces.is_piece parts c.parts.part-index c.part-item.result c.parts-test.true c.part-item.is in
    (subst (AllByRecursion g.P.Pieces.fit) here (Each-drop g.P.Pieces.fit c.parts.part-index parts c.requires.fit.0)).0

pub piece-requires-clause-fit : goal.piece-requires-clause-fit
piece-requires-clause-fit g c =
    let parts = c.args.self.now.parts.now in
    let here = part-here g.P.Pieces.size g.P.Pieces.is_piece parts c.parts.part-index c.part-item.result c.parts-test.true c.part-item.is in
    (subst (AllByRecursion g.P.Pieces.fit) here (Each-drop g.P.Pieces.fit c.parts.part-index parts c.requires.fit.0)).0

pub piece-requires-clause-inside : goal.piece-requires-clause-inside
piece-requires-clause-inside g c = subst (λ (n : ℕ). c.parts.at < n) c.count-count.ensures c.if-at-count.true

pub returns-then-at-count : goal.returns-then-at-count
returns-then-at-count g c =
    let size = g.P.Pieces.size in
    let is_piece = g.P.Pieces.is_piece in
    let here = part-here size is_piece c.args.self.now.parts.now c.parts.part-index c.part-item.result c.parts-test.true c.part-item.is in
    let count = c.count-count.ensures in
    let less = c.if-at-count.true in
    IfOk-weaker c.piece.result _ _
    (λ piece h. c.parts.invariant.leads piece (subst (λ (l : List g.row.P.Denot). IsPieceOf size is_piece l c.parts.at piece) (sym here) ((λ _. h), (λ more. absurd (omega arith)))))
    c.piece.ensures

pub parts-preserved : goal.parts-preserved
parts-preserved g c =
    let size = g.P.Pieces.size in
    let is_piece = g.P.Pieces.is_piece in
    let parts = c.args.self.now.parts.now in
    let next = drop (c.parts.part-index + 1) parts in
    let here = part-here size is_piece parts c.parts.part-index c.part-item.result c.parts-test.true c.part-item.is in
    let count = c.count-count.ensures in
    let past = c.if-at-count.false in
    record {
      inside =
          let all = ap (total_size size) here in
          let inside = c.parts.invariant.inside in
          omega arith;
      leads = λ piece h.
          c.parts.invariant.leads piece
          (subst (λ (l : List g.row.P.Denot). IsPieceOf size is_piece l c.parts.at piece) (sym here)
          ((λ less. absurd (omega arith)), (λ more. subst (λ (n : ℕ). IsPieceOf size is_piece next (c.parts.at - n) piece) count h)));
    }
