-- The waits of those visits that depart are no longer than the longest of all.
use Rattle.std.proofs.Common.{◌≡◌, ℕ, ◌≤◌, List, [], ◌∷◌, max, arith}
use Rattle.std.specs.Prelude.{fold}
use Rattle.std.specs.List.{AllByRecursion as Each}
use Rattle.mq_core.specs.Sequences.{sequence_waits}
use Rattle.mq_core.specs.declared.model.Fate.{Fate}
use Rattle.mq_core.specs.declared.model.Fate.TheVariants.{Departs, Held, Lost}
use Rattle.mq_core.specs.declared.model.Kind.{Kind}
use Rattle.mq_core.specs.declared.model.Rows.{Rows}
use Rattle.mq_stats.specs.Percentiles.{departed_waits}

no-less : (xs : List ℕ) (n : ℕ) → n ≤ fold max n xs
no-less [] n = omega arith
no-less (x ∷ xs) n = let rest = no-less xs (max n x) in omega arith

greatest : (xs : List ℕ) (n most : ℕ) → fold max n xs ≤ most → Each (λ x. x ≤ most) xs
greatest [] n most l = tt
greatest (x ∷ xs) n most l = (let rest = no-less xs (max n x) in omega arith, greatest xs (max n x) most l)

some : (P : ℕ → Type 0) (rows : Rows) (kind : Kind) (jobs arrives : List ℕ) (fates : List Fate) → Each P (sequence_waits rows kind jobs arrives fates) → Each P (departed_waits rows kind jobs arrives fates)
some P rows kind [] arrives fates h = tt
some P rows kind (job ∷ jobs) [] fates h = tt
some P rows kind (job ∷ jobs) (arrive ∷ arrives) [] h = tt
some P rows kind (job ∷ jobs) (arrive ∷ arrives) (Departs time ∷ fates) h = (h.0, some P rows kind jobs arrives fates h.1)
some P rows kind (job ∷ jobs) (arrive ∷ arrives) (Lost ∷ fates) h = some P rows kind jobs arrives fates h.1
some P rows kind (job ∷ jobs) (arrive ∷ arrives) (Held ∷ fates) h = some P rows kind jobs arrives fates h.1

pub departed-most : (rows : Rows) (kind : Kind) (jobs arrives : List ℕ) (fates : List Fate) (longest : ℕ) → longest ≡ fold max 0 (sequence_waits rows kind jobs arrives fates) → Each (λ wait. wait ≤ longest) (departed_waits rows kind jobs arrives fates)
departed-most rows kind jobs arrives fates longest e =
    some (λ wait. wait ≤ longest) rows kind jobs arrives fates (greatest (sequence_waits rows kind jobs arrives fates) 0 longest (omega arith))
