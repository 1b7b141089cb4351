-- Times and fates with a latest time, and demands in their limit.
use Rattle.std.proofs.Common.{ℕ, ◌^◌, ◌≤◌, List, [], ◌∷◌, map, arith}
use Rattle.std.specs.List.{AllByRecursion as Each}
use Rattle.mq_core.specs.declared.model.Fate.{Fate}
use Rattle.mq_core.specs.declared.model.Fate.TheVariants.{Departs, Held, Lost}

-- none of these times is later than this
abbrev pub AreBy : ℕ → List ℕ → Type 0
AreBy limit times = Each (λ time. time ≤ limit) times

-- each of these demands is in its limit
abbrev pub AreSmall : List ℕ → Type 0
AreSmall demands = Each (λ demand. demand ≤ 2 ^ 36) demands

-- lost, held, or gone by this time
abbrev pub LeavesBy : ℕ → Fate → Type 0
LeavesBy limit (Departs time) = time ≤ limit
LeavesBy limit Lost = Unit {0}
LeavesBy limit Held = Unit {0}

abbrev pub LeaveBy : ℕ → List Fate → Type 0
LeaveBy limit fates = Each (LeavesBy limit) fates

pub by-later : (limit later : ℕ) (times : List ℕ) → limit ≤ later → AreBy limit times → AreBy later times
by-later limit later [] l h = tt
by-later limit later (time ∷ times) l h = (let first = h.0 in omega arith, by-later limit later times l h.1)

pub departs-by : (limit : ℕ) (times : List ℕ) → AreBy limit times → LeaveBy limit (map (λ time. Departs time) times)
departs-by limit [] h = tt
departs-by limit (time ∷ times) h = (h.0, departs-by limit times h.1)
