-- The limit of the departures that a guess gives.
use Rattle.std.proofs.Common.{◌≡◌, ℕ, ◌+◌, ◌*◌, ◌^◌, ◌≤◌, Bool, true, false, List, [], ◌∷◌, ◌++◌, length, sym, subst, arith}
use Rattle.std.specs.Prelude.{All, reverse, slice_get}
use Rattle.std.proofs.lemmas.List.{append-nil}
use Rattle.std.proofs.lemmas.List.Elements.{All-head, All-tail}
use Rattle.mq_core.specs.Recurrences.{time_or_none}
use Rattle.mq_loss.specs.Rounds.{departure_behind}
use Rattle.mq_rounds.specs.Rounds.{departures_from, left_of}
use Rattle.mq_rounds.proofs.lemmas.Departing.{behind-cons}

-- the last of these, the latest first, is in its limit
pub record IsEarly (left : List ℕ) (count : ℕ) : Type 0 where
  pub limit : time_or_none (slice_get left 0) ≤ 2 ^ 60 + count * 2 ^ 36

pub early-next : (left : List ℕ) (count arrive demand : ℕ) → arrive ≤ 2 ^ 60 → demand ≤ 2 ^ 36 → IsEarly left count →
    departure_behind left arrive demand ≤ 2 ^ 60 + (count + 1) * 2 ^ 36
early-next left count arrive demand a e h = let l = h.limit in omega arith

pub early-same : (left : List ℕ) (count : ℕ) → IsEarly left count → IsEarly left (count + 1)
early-same left count h = let l = h.limit in record { limit = omega arith }

early-all : (left times demands : List ℕ) (guess : List Bool) (count : ℕ) → All (λ time. time ≤ 2 ^ 60) times → All (λ demand. demand ≤ 2 ^ 36) demands →
    IsEarly left count → IsEarly (reverse (departures_from departure_behind left times demands guess) ++ left) (count + length guess)
early-all left [] demands guess count a e h = let l = h.limit in record { limit = omega arith }
early-all left (arrive ∷ arrives) [] guess count a e h = let l = h.limit in record { limit = omega arith }
early-all left (arrive ∷ arrives) (demand ∷ demands) [] count a e h = let l = h.limit in record { limit = omega arith }
early-all left (arrive ∷ arrives) (demand ∷ demands) (true ∷ guess) count a e h =
    let first : ℕ = departure_behind left arrive demand in
    let next : IsEarly (first ∷ left) (count + 1) = record { limit = early-next left count arrive demand (All-head (λ x. x ≤ 2 ^ 60) arrive arrives a) (All-head (λ x. x ≤ 2 ^ 36) demand demands e) h } in
    let onward = early-all (first ∷ left) arrives demands guess (count + 1) (All-tail (λ x. x ≤ 2 ^ 60) arrive arrives a) (All-tail (λ x. x ≤ 2 ^ 36) demand demands e) next in
    let number : count + 1 + length guess ≡ count + length (true ∷ guess) = omega arith in
    subst (λ (p : List ℕ × ℕ). IsEarly p.0 p.1) (λ k. (sym (behind-cons first (departures_from departure_behind (first ∷ left) arrives demands guess) left) k, number k)) onward
early-all left (arrive ∷ arrives) (demand ∷ demands) (false ∷ guess) count a e h =
    let onward = early-all left arrives demands guess (count + 1) (All-tail (λ x. x ≤ 2 ^ 60) arrive arrives a) (All-tail (λ x. x ≤ 2 ^ 36) demand demands e) (early-same left count h) in
    let number : count + 1 + length guess ≡ count + length (false ∷ guess) = omega arith in
    subst (λ (n : ℕ). IsEarly (reverse (departures_from departure_behind left arrives demands guess) ++ left) n) number onward

-- the last departure that a guess gives is in its limit
pub departures-early : (times demands : List ℕ) (guess : List Bool) → All (λ time. time ≤ 2 ^ 60) times → All (λ demand. demand ≤ 2 ^ 36) demands →
    IsEarly (left_of departure_behind times demands guess) (length guess)
departures-early times demands guess a e =
    let none : 0 + length guess ≡ length guess = omega arith in
    subst (λ (p : List ℕ × ℕ). IsEarly p.0 p.1) (λ k. (append-nil (left_of departure_behind times demands guess) k, none k))
    (early-all [] times demands guess 0 a e (record { limit = omega arith }))
