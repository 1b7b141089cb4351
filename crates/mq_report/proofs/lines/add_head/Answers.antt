use Rattle.std.proofs.Common.{◌≡◌, ◌++◌, ◌∷◌, [], List, ℕ, append_assoc, subst, sym}
use Rattle.std.specs.Prelude.{codes, decimal}
use Rattle.mq_outside.specs.Outside.{Adds}
use Rattle.mq_report.specs.Text.{head_line, jobs_line}
use Rattle.mq_report.proofs.lines.add_head.Goals as goal

-- both lines, piece by piece
pieces : (a b c d e f g h : List ℕ) → (a ++ b ++ c) ++ (d ++ e ++ f ++ g ++ h) ≡ a ++ (b ++ ((c ++ d) ++ (e ++ (f ++ (g ++ h)))))
pieces a b c d e f g h = simp append_assoc

pub returns : goal.returns
unfolding head_line jobs_line
returns g c =
    subst (Adds g.O.Sink.taken g.O.Sink.sure g.O.Sink.faults _ _ _ _ c.add_pieces.result)
    (sym (pieces (codes "mpsim report ") (decimal c.args.form) (10 ∷ []) (codes "jobs ") (decimal c.args.jobs) (codes " span ") (decimal c.args.span) (10 ∷ []))) c.add_pieces.ensures
