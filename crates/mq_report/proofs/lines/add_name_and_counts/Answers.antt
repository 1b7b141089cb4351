use Rattle.std.proofs.Common.{◌≡◌, ◌++◌, List, ℕ, append_assoc, subst, sym}
use Rattle.std.specs.Prelude.{codes, decimal}
use Rattle.mq_outside.specs.Outside.{Adds}
use Rattle.mq_report.specs.Text.{kind_word, node_counts, node_words}
use Rattle.mq_report.proofs.lines.add_name_and_counts.Goals as goal

-- words and counts, piece by piece
pieces : (a b c d e f g h i : List ℕ) → (a ++ b ++ c ++ d ++ e) ++ (f ++ g ++ h ++ i) ≡ a ++ (b ++ (c ++ (d ++ (e ++ (f ++ (g ++ (h ++ i)))))))
pieces a b c d e f g h i = simp append_assoc

pub returns : goal.returns
unfolding node_words node_counts
returns g c =
    subst (Adds g.O.Sink.taken g.O.Sink.sure g.O.Sink.faults _ _ _ _ c.add_pieces.result)
    (sym (pieces (codes "node ") c.args.name.now (codes " ") (kind_word c.args.kind.now) (codes " in ") (decimal c.args.totals.now.came) (codes " out ") (decimal c.args.totals.now.left) (codes " lost ")))
    (rw c.kind_word.ensures at c.add_pieces.ensures)
