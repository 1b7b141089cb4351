-- The departures of fates of jobs that all depart: for the proofs of mq_exits too.
use Rattle.std.proofs.Common.{◌≡◌, ℕ, List, [], ◌∷◌, map, refl, ap}
use Rattle.mq_core.specs.Fates.{departure_times}
use Rattle.mq_core.specs.declared.model.Fate.TheVariants.{Departs}

pub departures-of : (times : List ℕ) → departure_times (map (λ t. Departs t) times) ≡ times
departures-of [] = refl
departures-of (t ∷ ts) = ap (λ l. t ∷ l) (departures-of ts)
