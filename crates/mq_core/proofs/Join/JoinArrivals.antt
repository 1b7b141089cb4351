-- What the sequences of a join owe to its arrivals.
use Rattle.std.proofs.Common.{Bool, List, None, Option, Some, [], arith, cond, false, suc, true, zero, ℕ, ◌∷◌, ◌≤◌}
use Rattle.std.specs.Prelude.{map, slice_index}
use Rattle.mq_core.specs.Came.{Came}
use Rattle.mq_core.specs.Kinds.Join.{fate_by_match, is_whole_at, join, matches_of, wholes_from, wholes_of}
use Rattle.mq_core.specs.declared.model.Rows.{Rows}
use Rattle.mq_core.proofs.Bounded.BoundedStations.{AreBy, LeaveBy, LeavesBy, by-later}
use Rattle.mq_core.proofs.EachKind.ArrivalLaws.{ArrivalLaws}

-- a time of a list, or 0 where there is none
index-by : (limit : ℕ) (times : List ℕ) (place : ℕ) → AreBy limit times → slice_index times place ≤ limit
index-by limit [] place h = omega arith
index-by limit (time ∷ times) zero h = h.0
index-by limit (time ∷ times) (suc place) h = index-by limit times place h.1

-- a match departs when one of the visits came
matches-by : (limit : ℕ) (arrive : List ℕ) → AreBy limit arrive → (ms : List (Option ℕ)) → LeaveBy limit (map (fate_by_match arrive) ms)
matches-by limit arrive h [] = tt
matches-by limit arrive h (o ∷ ms) = (one o, matches-by limit arrive h ms)
  where
    one : (p : Option ℕ) → LeavesBy limit (fate_by_match arrive p)
    one None = tt
    one (Some place) = index-by limit arrive place h

-- and leaves then
wholes-by : (limit k : ℕ) (ms : List (Option ℕ)) (times : List ℕ) → AreBy limit times → AreBy limit (wholes_from k ms times)
wholes-by limit k [] times h = tt
wholes-by limit k (o ∷ ms) [] h = tt
wholes-by limit k (o ∷ ms) (time ∷ times) h = go (is_whole_at k o) (wholes-by limit (suc k) ms times h.1)
  where
    go : (b : Bool) → AreBy limit (wholes_from (suc k) ms times) → AreBy limit (cond b (time ∷ wholes_from (suc k) ms times) (wholes_from (suc k) ms times))
    go true ih = (h.0, ih)
    go false ih = ih

pub join-arrivals : (rows : Rows) → ArrivalLaws rows join
join-arrivals rows =
    record {
      bounded = λ came limit top columns sound told room early. matches-by limit came.arrive (by-later top limit came.arrive (omega arith) early) (matches_of came);
      streamed = λ came limit out early late. through came limit early out;
      in_time = λ leave. absurd cc;
      blind = λ leave. absurd cc;
    }
  where
    through : (came : Came) (limit : ℕ) → AreBy limit came.arrive → (out : ℕ) → AreBy limit (wholes_of out came came.arrive)
    through came limit early zero = wholes-by limit 0 (matches_of came) came.arrive early
    through came limit early (suc out) = tt
