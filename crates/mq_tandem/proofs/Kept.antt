-- The latest departures as they are kept.
use Rattle.std.proofs.Common.{◌≡◌, ℕ, zero, suc, ◌<◌, ◌≤◌, List, [], ◌∷◌, take, map, max, replicate, set, refl, ap, ◌∙◌, arith}
use Rattle.std.proofs.lemmas.List.{drop-replicate, take-replicate}
use Rattle.std.proofs.Math.Seq.{take-set-lt}
use Rattle.mq_maxplus.specs.declared.mp.Mp.{Mp}
use Rattle.mq_maxplus.specs.declared.mp.Mp.TheVariants.{Void, At}
use Rattle.mq_maxplus.specs.Maxplus.{mp_max, mp_or_zero}
use Rattle.mq_tandem.specs.Padded.{ArePadded}

-- zeros
pub zeros-padded : (rows : ℕ) → 1 ≤ rows → rows ≤ 14 → ArePadded rows (replicate 14 0)
zeros-padded rows some few = record { some = some; few = few; all = refl; padded = drop-replicate rows 14 0 }

map-replicate : (n : ℕ) → map At (replicate n 0) ≡ replicate n (At 0)
map-replicate zero = refl
map-replicate (suc n) = ap (λ xs. At 0 ∷ xs) (map-replicate n)

pub zeros-kept : (rows : ℕ) → rows ≤ 14 → map At (take rows (replicate 14 0)) ≡ replicate rows (At 0)
zeros-kept rows few = ap (map At) (take-replicate rows 14 0 few) ∙ map-replicate rows

-- a row that is written
map-set : (times : List ℕ) (row time : ℕ) → map At (set times row time) ≡ set (map At times) row (At time)
map-set [] row time = refl
map-set (x ∷ times) zero time = refl
map-set (x ∷ times) (suc row) time = ap (λ xs. At x ∷ xs) (map-set times row time)

pub set-kept : (rows : ℕ) (times : List ℕ) (row time : ℕ) → row < rows → map At (take rows (set times row time)) ≡ set (map At (take rows times)) row (At time)
set-kept rows times row time l = ap (map At) (take-set-lt rows times row time l) ∙ map-set (take rows times) row time

-- the later of a time and of one that may be minus infinity
pub later-time : (x : ℕ) (y : Mp) → mp_max (At x) y ≡ At (max x (mp_or_zero y))
later-time x Void = ap At (omega arith)
later-time x (At y) = refl
