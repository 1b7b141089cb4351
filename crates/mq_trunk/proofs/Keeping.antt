-- The latest departures, as many as there are servers, tell as much as all do.
use Rattle.std.proofs.Common.{◌≡◌, ℕ, zero, suc, ◌<◌, ◌≤◌, Bool, true, false, List, [], ◌∷◌, ◌++◌, length, replicate, drop, take, Some, refl, sym, ap, ◌∙◌, subst, arith}
use Rattle.std.specs.Prelude.{min, nat_lt, slice_get, slice_index, if◌then◌else◌}
use Rattle.std.proofs.lemmas.List.{length-replicate}
use Rattle.std.proofs.lemmas.Option.{slice_get-get_or}
use Rattle.std.proofs.lemmas.Bool.Decides.{nat_tests}
use Rattle.mq_core.specs.Recurrences.{busy_at, finds_server}
use Rattle.mq_trunk.specs.Kept.{IsFalling, IsKept, take_place}

-- one departure more
pub busy-later : (now time : ℕ) (left : List ℕ) → now < time → busy_at now (time ∷ left) ≡ suc (busy_at now left)
busy-later now time left l = grind (arith, nat_tests)

pub busy-past : (now time : ℕ) (left : List ℕ) → time ≤ now → busy_at now (time ∷ left) ≡ busy_at now left
busy-past now time left l = grind (arith, nat_tests)

-- fewer come after a later time
pub busy-least : (now later : ℕ) (left : List ℕ) → now ≤ later → busy_at later left ≤ busy_at now left
busy-least now later [] l = omega arith
busy-least now later (time ∷ left) l = let h = busy-least now later left l in grind (arith, nat_tests)

pub busy-few : (now : ℕ) (left : List ℕ) → busy_at now left ≤ length left
busy-few now [] = omega arith
busy-few now (time ∷ left) = let h = busy-few now left in grind (arith, nat_tests)

-- of times that fall, those up to one that is later are later
pub falls-later : (now i time : ℕ) (times : List ℕ) → IsFalling times → slice_get times i ≡ Some time → now < time → suc i ≤ busy_at now times
falls-later now i time [] f h l = absurd (cc)
falls-later now zero time (first ∷ times) f h l = let same : first ≡ time = cc in grind (arith, nat_tests)
falls-later now (suc i) time (first ∷ times) f h l =
    let more = falls-later now i time times f.1 h l in
    let none = f.0 in
    let least : now < first → busy_at now (first ∷ times) ≡ suc (busy_at now times) = λ m. busy-later now first times m in
    let other : first ≤ now → busy_at now times ≤ busy_at first times = λ m. busy-least first now times m in
    grind (arith, nat_tests)

-- and those from one on that is past are past
pub falls-past : (now i time : ℕ) (times : List ℕ) → IsFalling times → slice_get times i ≡ Some time → time ≤ now → busy_at now times ≤ i
falls-past now i time [] f h l = absurd (cc)
falls-past now zero time (first ∷ times) f h l =
    let same : first ≡ time = cc in
    let none = f.0 in
    let here : busy_at now (first ∷ times) ≡ busy_at now times = busy-past now first times (omega arith) in
    let fewer : busy_at now times ≤ busy_at first times = busy-least first now times (omega arith) in
    omega arith
falls-past now (suc i) time (first ∷ times) f h l = let more = falls-past now i time times f.1 h l in grind (arith, nat_tests)

pub falls-later-at : (now i : ℕ) (times : List ℕ) → IsFalling times → i < length times → now < slice_index times i → suc i ≤ busy_at now times
falls-later-at now i times f l h = falls-later now i (slice_index times i) times f (slice_get-get_or times i 0 l) h

pub falls-past-at : (now i : ℕ) (times : List ℕ) → IsFalling times → i < length times → slice_index times i ≤ now → busy_at now times ≤ i
falls-past-at now i times f l h = falls-past now i (slice_index times i) times f (slice_get-get_or times i 0 l) h

place-by : (now time other : ℕ) (times : List ℕ) (b : Bool) → nat_lt other time ≡ b → busy_at other times ≡ 0 →
    busy_at now (take_place other times) ≡ min (length times) (busy_at now (other ∷ times)) →
    busy_at now (take_place time times) ≡ min (length times) (busy_at now (time ∷ times)) →
    busy_at now (if b then (time ∷ take_place other times) else (other ∷ take_place time times)) ≡ min (suc (length times)) (busy_at now (time ∷ other ∷ times))
place-by now time other times true e none swapped kept =
    let least : other ≤ now → busy_at now times ≤ busy_at other times = λ m. busy-least other now times m in
    grind (arith, nat_tests)
place-by now time other times false e none swapped kept =
    let least : other ≤ now → busy_at now times ≤ busy_at other times = λ m. busy-least other now times m in
    grind (arith, nat_tests)

-- one that takes its place among others is counted with them, up to as many as there are
pub place-counts : (now time : ℕ) (times : List ℕ) → IsFalling times → busy_at now (take_place time times) ≡ min (length times) (busy_at now (time ∷ times))
place-counts now time [] f = omega arith
place-counts now time (other ∷ times) f = place-by now time other times (nat_lt other time) refl f.0 (place-counts now other times f.1) (place-counts now time times f.1)

falls-by : (time other : ℕ) (times : List ℕ) (b : Bool) → nat_lt other time ≡ b → IsFalling (other ∷ times) → IsFalling (take_place other times) → IsFalling (take_place time times) →
    IsFalling (if b then (time ∷ take_place other times) else (other ∷ take_place time times))
falls-by time other times true e f swapped kept =
    let none = f.0 in
    let least : busy_at time times ≤ busy_at other times = busy-least other time times (grind (arith, nat_tests)) in
    let counts = place-counts time other times f.1 in
    ((grind (arith, nat_tests)), swapped)
falls-by time other times false e f swapped kept =
    let none = f.0 in
    let counts = place-counts other time times f.1 in
    ((grind (arith, nat_tests)), kept)

-- they still fall, and are as many
pub place-falls : (time : ℕ) (times : List ℕ) → IsFalling times → IsFalling (take_place time times)
place-falls time [] f = f
place-falls time (other ∷ times) f = falls-by time other times (nat_lt other time) refl f (place-falls other times f.1) (place-falls time times f.1)

length-by : (time other : ℕ) (times : List ℕ) (b : Bool) → length (take_place other times) ≡ length times → length (take_place time times) ≡ length times →
    length (if b then (time ∷ take_place other times) else (other ∷ take_place time times)) ≡ suc (length times)
length-by time other times true s k = ap suc s
length-by time other times false s k = ap suc k

pub place-length : (time : ℕ) (times : List ℕ) → length (take_place time times) ≡ length times
place-length time [] = refl
place-length time (other ∷ times) = length-by time other times (nat_lt other time) (place-length other times) (place-length time times)

-- what is left of times that fall, behind as many as come after a time
pub record IsBehind (time place : ℕ) (times : List ℕ) : Type 0 where
  pub same : take place times ++ take_place time (drop place times) ≡ take_place time times
  pub first : busy_at time (drop place times) ≡ 0
  pub falls : IsFalling (drop place times)

behind-by : (time other : ℕ) (times : List ℕ) (b : Bool) → nat_lt time other ≡ b → IsFalling (other ∷ times) → IsBehind time (busy_at time times) times →
    IsBehind time (busy_at time (other ∷ times)) (other ∷ times)
behind-by time other times true e f h =
    let more : suc (busy_at time times) ≡ busy_at time (other ∷ times) = grind (arith, nat_tests) in
    let past : false ≡ nat_lt other time = grind (arith, nat_tests) in
    subst (λ n. IsBehind time n (other ∷ times)) more (record {
      same = ap (λ ts. other ∷ ts) h.same ∙ ap (λ b. if b then (time ∷ take_place other times) else (other ∷ take_place time times)) past;
      first = h.first;
      falls = h.falls;
    })
behind-by time other times false e f h =
    let none = f.0 in
    let least : busy_at time times ≤ busy_at other times = busy-least other time times (grind (arith, nat_tests)) in
    let zero' : 0 ≡ busy_at time (other ∷ times) = grind (arith, nat_tests) in
    subst (λ n. IsBehind time n (other ∷ times)) zero' (record { same = refl; first = sym zero'; falls = f })

-- one takes its place behind those that come after it
pub place-behind : (time : ℕ) (times : List ℕ) → IsFalling times → IsBehind time (busy_at time times) times
place-behind time [] f = record { same = refl; first = refl; falls = f }
place-behind time (other ∷ times) f = behind-by time other times (nat_lt time other) refl f (place-behind time times f.1)

none-busy : (now count : ℕ) → busy_at now (replicate count 0) ≡ 0
none-busy now zero = refl
none-busy now (suc count) = let h = none-busy now count in grind (arith, nat_tests)

none-falls : (count : ℕ) → IsFalling (replicate count 0)
none-falls zero = tt
none-falls (suc count) = (none-busy 0 count, none-falls count)

-- at the beginning each server is free
pub kept-none : (servers : ℕ) → IsKept servers (replicate servers 0) []
kept-none servers = record {
  falls = none-falls servers;
  number = length-replicate servers 0;
  same = λ now. ap (min servers) (none-busy now servers);
}

-- and one departure more takes its place
pub kept-next : (servers : ℕ) (latest left : List ℕ) (time : ℕ) → IsKept servers latest left → IsKept servers (take_place time latest) (time ∷ left)
kept-next servers latest left time h =
    record {
      falls = place-falls time latest h.falls;
      number = place-length time latest ∙ h.number;
      same = λ now. (let counts = place-counts now time latest h.falls in let n = h.number in let s = h.same now in grind (arith, nat_tests));
    }

-- an arrival is judged by the latest alone
pub kept-judges : (servers : ℕ) (latest left : List ℕ) (arrive : ℕ) → IsKept servers latest left → nat_lt (busy_at arrive latest) servers ≡ finds_server servers left arrive
kept-judges servers latest left arrive h = let s = h.same arrive in grind (arith, nat_tests)
