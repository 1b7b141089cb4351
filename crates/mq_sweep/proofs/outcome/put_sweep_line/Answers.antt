use Rattle.std.proofs.Common.{ℕ, List, [], ◌∷◌, ◌++◌, ◌∙◌, codes, decimal, append_assoc}
use Rattle.std.specs.declared.option.Option.{Option}
use Rattle.mq_outcome.specs.Lines.{PutsLine}
use Rattle.mq_sweep.proofs.outcome.put_sweep_line.Goals as goal

-- three pieces, and four, one behind another
puts_three : {S : Type 0} (t : S → Option (List ℕ)) (s f : S → ℕ) (o o' : S) (a b x : List ℕ) → PutsLine t s f o o' (a ++ (b ++ x)) → PutsLine t s f o o' (a ++ b ++ x)
puts_three t s f o o' a b x h = rw (append_assoc a b x) h

puts_four : {S : Type 0} (t : S → Option (List ℕ)) (s f : S → ℕ) (o o' : S) (a b x y : List ℕ) → PutsLine t s f o o' (a ++ (b ++ (x ++ y))) → PutsLine t s f o o' (a ++ b ++ x ++ y)
puts_four t s f o o' a b x y h = rw (append_assoc (a ++ b) x y ∙ append_assoc a b (x ++ y)) h

pub returns-in-Usage : goal.returns-in-Usage
returns-in-Usage g c = rw c.in-Usage.is c.put_pieces-in-Usage.ensures

pub returns-in-TooLong : goal.returns-in-TooLong
returns-in-TooLong g c =
    rw c.in-TooLong.is (puts_four _ _ _ _ _ (codes "mpsweep: file ") (decimal c.in-TooLong.word) (codes " is too long") (10 ∷ []) c.put_pieces-in-TooLong.ensures)

pub returns-in-ReadFault : goal.returns-in-ReadFault
returns-in-ReadFault g c =
    rw c.in-ReadFault.is (puts_three _ _ _ _ _ (codes "mpsweep: cannot read file ") (decimal c.in-ReadFault.word) (10 ∷ []) c.put_pieces-in-ReadFault.ensures)

pub returns-in-WriteFault : goal.returns-in-WriteFault
returns-in-WriteFault g c = rw c.in-WriteFault.is c.put_pieces-in-WriteFault.ensures

pub returns-in-Memory : goal.returns-in-Memory
returns-in-Memory g c = rw c.in-Memory.is c.put_pieces-in-Memory.ensures
