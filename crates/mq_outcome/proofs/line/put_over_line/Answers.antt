use Rattle.std.proofs.Common.{ℕ, List, [], ◌∷◌, ◌++◌, ◌∙◌, codes, decimal, append_assoc}
use Rattle.std.specs.declared.option.Option.{Option}
use Rattle.mq_outcome.specs.Lines.{PutsLine}
use Rattle.mq_outcome.proofs.line.put_over_line.Goals as goal

-- eight pieces, one behind another
puts_eight : {S : Type 0} (t : S → Option (List ℕ)) (s f : S → ℕ) (o o' : S) (p a b c d e x y : List ℕ)
    → PutsLine t s f o o' (p ++ (a ++ (b ++ (c ++ (d ++ (e ++ (x ++ y))))))) → PutsLine t s f o o' (p ++ a ++ b ++ c ++ d ++ e ++ x ++ y)
puts_eight t s f o o' p a b c d e x y h =
    rw (append_assoc (p ++ a ++ b ++ c ++ d ++ e) x y ∙ append_assoc (p ++ a ++ b ++ c ++ d) e (x ++ y) ∙ append_assoc (p ++ a ++ b ++ c) d (e ++ (x ++ y))
    ∙ append_assoc (p ++ a ++ b) c (d ++ (e ++ (x ++ y))) ∙ append_assoc (p ++ a) b (c ++ (d ++ (e ++ (x ++ y)))) ∙ append_assoc p a (b ++ (c ++ (d ++ (e ++ (x ++ y))))))
    h

pub returns : goal.returns
returns g c =
    puts_eight _ _ _ _ _ c.args.program.now (codes "node ") c.args.name.now (codes " has ") (decimal c.args.fault.now.count) (codes " visits") c.args.back.now (10 ∷ []) c.put_pieces.ensures
