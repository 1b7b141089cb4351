-- That departures are no earlier than after the bare time, and no earlier than the arrival.
use Rattle.std.proofs.Common.{List, [], arith, length, map, ℕ, ◌∷◌, ◌≡◌, ap, suc, ◌≤◌}
use Rattle.std.specs.List.{AllByRecursion as Each, zip}
use Rattle.mq_core.specs.SequenceLaws.{LeavesFrom, FatesInTime}
use Rattle.mq_core.specs.Recurrences.{delayed}
use Rattle.mq_core.specs.declared.model.Fate.{Fate}
use Rattle.mq_core.specs.declared.model.Fate.TheVariants.{Departs}
use Rattle.mq_core.proofs.ForkJoin.ForkJoinTimes.{AtLeast, fates-at_least}

-- one departure a job, and none before it came and stayed its bare time
abbrev pub Stay : (ℕ → ℕ) → List ℕ → List ℕ → List ℕ → Type 0
Stay bare job arrive times = AtLeast (delayed arrive (map bare job)) times

-- no visit that departs does so earlier
abbrev pub FatesStay : (ℕ → ℕ) → List ℕ → List ℕ → List Fate → Type 0
FatesStay bare job arrive fate = Each (λ (p : ℕ × Fate). LeavesFrom p.0 p.1) (zip (delayed arrive (map bare job)) fate)

pub stay-fates : (bare : ℕ → ℕ) (job arrive times : List ℕ) → Stay bare job arrive times → FatesStay bare job arrive (map (λ time. Departs time) times)
stay-fates bare job arrive times h = (fates-at_least (delayed arrive (map bare job)) times h).each

pub stay-none : (job arrive : List ℕ) → length job ≡ length arrive → Stay (λ _. 0) job arrive arrive
stay-none [] [] e = tt
stay-none [] (a ∷ later) e = absurd (omega arith)
stay-none (j ∷ js) [] e = absurd (omega arith)
stay-none (j ∷ js) (a ∷ later) e = (omega arith, stay-none js later (omega arith))

pub cons : (a d : ℕ) (later : List ℕ) (fs : List Fate) → a ≤ d → FatesInTime later fs → FatesInTime (a ∷ later) (Departs d ∷ fs)
cons a d later fs l h = record { even = ap suc h.even; each = (l, h.each) }
