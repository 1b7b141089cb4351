use Rattle.std.proofs.Common.{◌≡◌, ◌∙◌, sym, ℕ, [], ◌∷◌, ◌++◌, codes, decimal, append_assoc, subst}
use Rattle.std.proofs.lemmas.Result.{on_err_weaker}
use Rattle.mq_outside.specs.Outside.{GoesOut}
use Rattle.mq_outside.proofs.lemmas.Gathers.{part_flushed}
use Rattle.mq_edit.specs.Answer.{again_line}
use Rattle.mq_edit.proofs.write.put_again.Goals as goal

-- the pieces of the line, one behind another
pieces_are : (again all : ℕ) → codes "again " ++ (decimal again ++ (codes " of " ++ (decimal all ++ (codes " blocks" ++ 10 ∷ [])))) ≡ again_line again all
pieces_are again all =
    sym (append_assoc (codes "again " ++ decimal again ++ codes " of " ++ decimal all) (codes " blocks") (10 ∷ [])
    ∙ append_assoc (codes "again " ++ decimal again ++ codes " of ") (decimal all) (codes " blocks" ++ 10 ∷ [])
    ∙ append_assoc (codes "again " ++ decimal again) (codes " of ") (decimal all ++ (codes " blocks" ++ 10 ∷ []))
    ∙ append_assoc (codes "again ") (decimal again) (codes " of " ++ (decimal all ++ (codes " blocks" ++ 10 ∷ []))))

pub returns-clause-err : goal.returns-clause-err
returns-clause-err g c =
    on_err_weaker _ (part_flushed _ _ _ _ _ _ _ _ (again_line c.args.redone.again c.args.redone.all) c.new-pending.ensures
    (subst (λ text. GoesOut (g.O.Sink.taken c.args.out.now) (g.O.Sink.taken c.add_pieces.new.out) (g.O.Sink.sure c.args.out.now) (g.O.Sink.sure c.add_pieces.new.out) (c.new-pending.result ++ text) c.add_pieces.new.pending)
    (pieces_are c.args.redone.again c.args.redone.all) c.in_ok-add_pieces.ensures.ok)) c.flush.ensures.err
