use Rattle.std.proofs.Common.{◌≡◌, ℕ, List, map, take}
use Rattle.mq_core.specs.declared.model.Fate.TheVariants.{Departs}
use Rattle.mq_redo.proofs.departures.first_departures.Given as goal

-- the first departures so far
abbrev pub invariant-visits : goal.invariant-visits
invariant-visits l = (times : List ℕ) → l.fates ≡ map (λ time. Departs time) times → l.times.items ≡ take l.at times
