use Rattle.std.proofs.Common.{ℕ, List, [], ◌∷◌, ◌++◌, ◌∙◌, codes, decimal, append_assoc}
use Rattle.std.specs.declared.option.Option.{Option}
use Rattle.mq_outcome.specs.Lines.{PutsLine}
use Rattle.mq_outcome.proofs.line.put_past_line.Goals as goal

-- nine pieces, one behind another
puts_nine : {S : Type 0} (t : S → Option (List ℕ)) (s f : S → ℕ) (o o' : S) (p a b c d e g x y : List ℕ)
    → PutsLine t s f o o' (p ++ (a ++ (b ++ (c ++ (d ++ (e ++ (g ++ (x ++ y)))))))) → PutsLine t s f o o' (p ++ a ++ b ++ c ++ d ++ e ++ g ++ x ++ y)
puts_nine t s f o o' p a b c d e g x y h =
    rw (append_assoc (p ++ a ++ b ++ c ++ d ++ e ++ g) x y ∙ append_assoc (p ++ a ++ b ++ c ++ d ++ e) g (x ++ y) ∙ append_assoc (p ++ a ++ b ++ c ++ d) e (g ++ (x ++ y))
    ∙ append_assoc (p ++ a ++ b ++ c) d (e ++ (g ++ (x ++ y))) ∙ append_assoc (p ++ a ++ b) c (d ++ (e ++ (g ++ (x ++ y))))
    ∙ append_assoc (p ++ a) b (c ++ (d ++ (e ++ (g ++ (x ++ y))))) ∙ append_assoc p a (b ++ (c ++ (d ++ (e ++ (g ++ (x ++ y)))))))
    h

pub returns : goal.returns
returns g c =
    puts_nine _ _ _ _ _ c.args.program.now (codes "node ") c.args.name.now (codes " position ") (decimal c.args.fault.now.position) (codes " passes the bound at time ") (decimal c.args.fault.now.time) c.args.back.now (10 ∷ [])
    c.put_pieces.ensures
