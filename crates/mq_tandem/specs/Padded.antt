-- How the latest departures are stored, with the laws for the ghost members of `Latest`: from the value in contracts the
-- stored numbers can be recovered.
use Rattle.std.specs.Prelude.{◌≡◌, ℕ, ◌-◌, ◌≤◌, List, [], ◌∷◌, ◌++◌, length, take, drop, map, replicate}
use Rattle.std.proofs.Common.{arith, refl, sym, ap, ◌∙◌, take-append-drop, length-take-le}
use Rattle.std.proofs.lemmas.List.{length-map}
use Rattle.mq_maxplus.specs.declared.mp.Mp.TheVariants.{At}
use Rattle.mq_maxplus.specs.Maxplus.{mp_or_zero}

-- 14 numbers; those after the last row are 0
pub record ArePadded (rows : ℕ) (times : List ℕ) : Type 0 where
  pub some : 1 ≤ rows
  pub few : rows ≤ 14
  pub all : length times ≡ 14
  pub padded : drop rows times ≡ replicate (14 - rows) 0

pub rows-back : (rows : ℕ) (times : List ℕ) → ArePadded rows times → length (map At (take rows times)) ≡ rows
rows-back rows times h = let few = h.few in let all = h.all in length-map (take rows times) At ∙ length-take-le rows times (omega arith)

-- numbers are recovered from entries
pub numbers-back : (times : List ℕ) → map mp_or_zero (map At times) ≡ times
numbers-back [] = refl
numbers-back (time ∷ times) = ap (λ ts. time ∷ ts) (numbers-back times)

pub times-back : (rows : ℕ) (times : List ℕ) → ArePadded rows times → map mp_or_zero (map At (take rows times)) ++ replicate (14 - length (map At (take rows times))) 0 ≡ times
times-back rows times h =
    (λ i. numbers-back (take rows times) i ++ replicate (14 - rows-back rows times h i) 0)
    ∙ (ap (λ ts. take rows times ++ ts) (sym h.padded) ∙ take-append-drop rows times)
