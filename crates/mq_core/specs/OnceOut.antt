-- The sequences of a node that lets each visit out once, from the fates of its visits: what each visit found, and what leaves by an
-- output. Lost visits, as at a loss station or a trunk group, leave by output 1.
use Rattle.std.specs.Prelude.{Bool, List, [], count_by, false, nat_lt, suc, true, ℕ, ◌++◌, ◌∷◌}
use Rattle.mq_core.specs.Came.{Came}
use Rattle.mq_core.specs.EmissionOrder.{EmissionOrder}
use Rattle.mq_core.specs.Machine.{Emission, Visit}
use Rattle.mq_core.specs.Streams.{picked, stream_by}
use Rattle.mq_core.specs.declared.model.Fate.{Fate}
use Rattle.mq_core.specs.declared.model.Fate.TheVariants.{Departs, Held, Lost}
use Rattle.mq_core.specs.declared.model.Stream.{Stream}

-- a visit with this fate is still there after this time: it departs later, or is held
abbrev pub departs_after : ℕ → Fate → Bool
departs_after time (Departs departure) = nat_lt time departure
departs_after time Lost = false
departs_after time Held = true

-- for each arrival, how many of the earlier visits (first those of `before`) are still there after it
abbrev pub founds_from : List Fate → List ℕ → List Fate → List ℕ
founds_from before [] fates = []
founds_from before (arrive ∷ arrives) [] = []
founds_from before (arrive ∷ arrives) (fate ∷ fates) =
    count_by (departs_after arrive) before ∷ founds_from (before ++ fate ∷ []) arrives fates

-- what each visit found, from its arrival and the fates of those before it
abbrev pub founds_of : List ℕ → List Fate → List ℕ
founds_of arrive fate = founds_from [] arrive fate

-- when a visit leaves: when it departs, or when it came if it is lost; a held visit never leaves, but none is held where each visit
-- leaves once
abbrev pub leaving_time : ℕ → Fate → ℕ
leaving_time arrive (Departs time) = time
leaving_time arrive Lost = arrive
leaving_time arrive Held = arrive

-- when each visit leaves
abbrev pub leaving_times : List ℕ → List Fate → List ℕ
leaving_times [] fates = []
leaving_times (arrive ∷ arrives) [] = []
leaving_times (arrive ∷ arrives) (fate ∷ fates) = leaving_time arrive fate ∷ leaving_times arrives fates

-- what leaves by an output if each visit leaves once, by the output given for it
abbrev pub once_out : EmissionOrder → Came → List Fate → List ℕ → ℕ → Stream
once_out order came fates outs out =
    stream_by order (record { job = picked out outs came.job; time = picked out outs (leaving_times came.arrive fates) })

-- the output by which a visit with this fate leaves: 1 if it is lost, otherwise 0
abbrev pub out_of_fate : Fate → ℕ
out_of_fate (Departs time) = 0
out_of_fate Lost = 1
out_of_fate Held = 0

-- what a visit with this fate lets out: by output 0 when it departs, or by output 1 at once if it is lost
abbrev pub faring_by : ℕ → Fate → Visit → Emission
faring_by position (Departs time) visit = record { out = 0; position = position; job = visit.job; time = time }
faring_by position Lost visit = record { out = 1; position = position; job = visit.job; time = visit.arrive }
faring_by position Held visit = record { out = 0; position = position; job = visit.job; time = visit.arrive }

-- what visits with these fates let out; the first is at this position
abbrev pub faring_from : ℕ → List Fate → List Visit → List Emission
faring_from position [] visits = []
faring_from position (fate ∷ fates) [] = []
faring_from position (fate ∷ fates) (visit ∷ visits) = faring_by position fate visit ∷ faring_from (suc position) fates visits
