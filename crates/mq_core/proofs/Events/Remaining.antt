-- What is left of the pending services.
use Rattle.std.proofs.Common.{◌≡◌, ℕ, ◌+◌, ◌-◌, ◌*◌, ◌≤◌, List, [], ◌∷◌, ◌++◌, length, arith}
use Rattle.std.proofs.Math.Nat.{suc-mul}
use Rattle.std.specs.List.{AllByRecursion as Each}
use Rattle.mq_core.specs.Event.{Event, time_of}

-- the time from now to the end of each pending service
abbrev pub remaining : ℕ → List Event → ℕ
remaining now [] = 0
remaining now (f ∷ fs) = (time_of f - now) + remaining now fs

pub remaining-append : (now : ℕ) (fs gs : List Event) → remaining now (fs ++ gs) ≡ remaining now fs + remaining now gs
remaining-append now [] gs = omega arith
remaining-append now (f ∷ fs) gs = omega (arith, remaining-append now fs gs)

-- while all of them are in service each loses the time that goes by
pub remaining-waits : (now later : ℕ) (fs : List Event) → now ≤ later → Each (λ f. later ≤ time_of f) fs → length fs * (later - now) + remaining later fs ≡ remaining now fs
remaining-waits now later [] l h = omega arith
remaining-waits now later (f ∷ fs) l h =
    let a = h.0 in
    let b = remaining-waits now later fs l h.1 in
    let c = suc-mul (length fs) (later - now) in
    omega arith
