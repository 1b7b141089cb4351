-- What visits let out if each goes on at once, or leaves at a given time.
use Rattle.std.specs.Prelude.{List, [], suc, ℕ, ◌∷◌}
use Rattle.mq_core.specs.Machine.{Emission, Visit}

-- what these visits let out if each goes on at once, by the output that `out` gives; the first is at this position
abbrev pub passed_from : (Visit → ℕ → ℕ) → ℕ → List Visit → List Emission
passed_from out position [] = []
passed_from out position (visit ∷ visits) =
    record { out = out visit position; position = position; job = visit.job; time = visit.arrive } ∷ passed_from out (suc position) visits

-- what these visits let out by output 0 at these times; the first is at this position
abbrev pub leaving_from : ℕ → List ℕ → List Visit → List Emission
leaving_from position [] visits = []
leaving_from position (time ∷ times) [] = []
leaving_from position (time ∷ times) (visit ∷ visits) =
    record { out = 0; position = position; job = visit.job; time = time } ∷ leaving_from (suc position) times visits
