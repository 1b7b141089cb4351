use Rattle.std.proofs.Common.{ℕ, List, [], ◌∷◌, ◌++◌, ◌∙◌, decimal, append_assoc}
use Rattle.std.specs.declared.option.Option.{Option}
use Rattle.mq_outcome.specs.Lines.{PutsLine}
use Rattle.mq_outcome.proofs.line.put_numbered_twice.Goals as goal

-- seven pieces, one behind another
puts_seven : {S : Type 0} (t : S → Option (List ℕ)) (s f : S → ℕ) (o o' : S) (p a b c d x y : List ℕ)
    → PutsLine t s f o o' (p ++ (a ++ (b ++ (c ++ (d ++ (x ++ y)))))) → PutsLine t s f o o' (p ++ a ++ b ++ c ++ d ++ x ++ y)
puts_seven t s f o o' p a b c d x y h =
    rw (append_assoc (p ++ a ++ b ++ c ++ d) x y ∙ append_assoc (p ++ a ++ b ++ c) d (x ++ y) ∙ append_assoc (p ++ a ++ b) c (d ++ (x ++ y))
    ∙ append_assoc (p ++ a) b (c ++ (d ++ (x ++ y))) ∙ append_assoc p a (b ++ (c ++ (d ++ (x ++ y)))))
    h

pub returns : goal.returns
returns g c =
    puts_seven _ _ _ _ _ c.args.program.now c.args.front.now (decimal c.args.whole) c.args.middle.now (decimal c.args.part) c.args.back.now (10 ∷ []) c.put_pieces.ensures
