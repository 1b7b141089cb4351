-- How many times there are of a job at a tandem, and lists of those before it.
use Rattle.std.proofs.Common.{◌≡◌, ℕ, suc, ◌+◌, List, [], ◌∷◌, length, refl, ap, arith, max}
use Rattle.std.specs.Prelude.{slice_get}
use Rattle.mq_core.specs.Recurrences.{each_before, room_in, stage_departs, time_or_none}

-- a departure a stage
pub stage_departs-length : (came : ℕ) (places demands : List ℕ) (left : List (List ℕ)) → length demands ≡ length places → length left ≡ length places → length (stage_departs came places demands left) ≡ length places
stage_departs-length came [] demands left e f = refl
stage_departs-length came (p ∷ places) [] left e f = absurd (omega arith)
stage_departs-length came (p ∷ places) (d ∷ demands) [] e f = absurd (omega arith)
stage_departs-length came (p ∷ places) (d ∷ demands) (times ∷ left) e f = ap suc (stage_departs-length (max (max came (time_or_none (slice_get times 0)) + d) (room_in places left)) places demands left (omega arith) (omega arith))

-- one list of times a stage, as before
pub each_before-length : (times : List ℕ) (left : List (List ℕ)) → length times ≡ length left → length (each_before times left) ≡ length left
each_before-length [] left e = e
each_before-length (time ∷ times) [] e = refl
each_before-length (time ∷ times) (earlier ∷ left) e = ap suc (each_before-length times left (omega arith))
