-- When jobs depart from a station, computed from their arrivals and demands, by position.
use Rattle.std.specs.Prelude.{ℕ, suc, ◌+◌, ◌-◌, max, nat_le, nat_lt, Bool, true, if◌then◌else◌, List, [], ◌∷◌, map, Option, Some, None, slice_get}
use Rattle.mq_core.specs.declared.model.Fate.{Fate}
use Rattle.mq_core.specs.declared.model.Fate.TheVariants.{Departs, Lost}

-- from a server, by Lindley's recurrence, given the last departure, the arrivals and the demands
abbrev pub lindley : ℕ → List ℕ → List ℕ → List ℕ
lindley last [] demands = []
lindley last (arrive ∷ arrives) [] = []
lindley last (arrive ∷ arrives) (demand ∷ demands) = (max arrive last + demand) ∷ lindley (max arrive last + demand) arrives demands

-- from a delay: each leaves its demand after it came
abbrev pub delayed : List ℕ → List ℕ → List ℕ
delayed [] demands = []
delayed (arrive ∷ arrives) [] = []
delayed (arrive ∷ arrives) (demand ∷ demands) = (arrive + demand) ∷ delayed arrives demands

-- a time, or 0 if there is none
abbrev pub time_or_none : Option ℕ → ℕ
time_or_none None = 0
time_or_none (Some time) = time

-- there is no time, or it is past
abbrev pub is_past : ℕ → Option ℕ → Bool
is_past now None = true
is_past now (Some time) = nat_le time now

-- An arrival is admitted if fewer jobs were admitted before it than there are places (at least 1), or if the first of the last
-- `places` jobs that were admitted has left by then. `left` lists the departures of the admitted jobs, the latest first.
abbrev pub is_admitted : ℕ → List ℕ → ℕ → Bool
is_admitted places left arrive = is_past arrive (slice_get left (places - 1))

-- how the arrivals at a loss station fare: the admitted ones are served in turn, the others are lost
abbrev pub loss_fates : ℕ → List ℕ → List ℕ → List ℕ → List Fate
loss_fates places left [] demands = []
loss_fates places left (arrive ∷ arrives) [] = []
loss_fates places left (arrive ∷ arrives) (demand ∷ demands) =
    if is_admitted places left arrive
    then (let time = max arrive (time_or_none (slice_get left 0)) + demand in Departs time ∷ loss_fates places (time ∷ left) arrives demands)
    else (Lost ∷ loss_fates places left arrives demands)

-- the number of these departures that are later than this time
abbrev pub busy_at : ℕ → List ℕ → ℕ
busy_at now [] = 0
busy_at now (time ∷ left) = if nat_lt now time then suc (busy_at now left) else busy_at now left

-- an arrival at a trunk group finds a server if, of the jobs admitted before it, fewer depart after its arrival than there are
-- servers
abbrev pub finds_server : ℕ → List ℕ → ℕ → Bool
finds_server servers left arrive = nat_lt (busy_at arrive left) servers

-- How the arrivals at a trunk group fare: those that find a server depart their demand after they came, the others are lost.
-- `left` lists the departures of the jobs admitted before, the latest admitted first.
abbrev pub trunk_fates : ℕ → List ℕ → List ℕ → List ℕ → List Fate
trunk_fates servers left [] demands = []
trunk_fates servers left (arrive ∷ arrives) [] = []
trunk_fates servers left (arrive ∷ arrives) (demand ∷ demands) =
    if finds_server servers left arrive
    then (Departs (arrive + demand) ∷ trunk_fates servers ((arrive + demand) ∷ left) arrives demands)
    else (Lost ∷ trunk_fates servers left arrives demands)

-- from servers in series: what leaves one arrives at the next
abbrev pub in_series : List ℕ → List (List ℕ) → List ℕ
in_series arrive [] = arrive
in_series arrive (demands ∷ more) = in_series (lindley 0 arrive demands) more

-- the later of two times, index by index
abbrev pub later_of : List ℕ → List ℕ → List ℕ
later_of [] times = []
later_of (time ∷ times) [] = []
later_of (time ∷ times) (other ∷ others) = max time other ∷ later_of times others

-- from a fork-join: a job leaves once it has gone through every branch, each of servers in series
abbrev pub forkjoin_departs : List ℕ → List (List (List ℕ)) → List ℕ
forkjoin_departs arrive [] = arrive
forkjoin_departs arrive (branch ∷ branches) = later_of (in_series arrive branch) (forkjoin_departs arrive branches)

-- When the first of these stages has room for another job: when the job that came as many jobs before it as the stage has places
-- left the stage. The lists give the places of this stage and those after it, and the departures from each, the latest first.
-- After the last stage there is always room.
abbrev pub room_in : List ℕ → List (List ℕ) → ℕ
room_in [] left = 0
room_in (places ∷ more) [] = 0
room_in (places ∷ more) (times ∷ left) = time_or_none (slice_get times (places - 1))

-- When a job that comes at this time leaves each of these stages, given their places, its demand at each, and the earlier
-- departures from each, the latest first. It is served after the job before it, and then stays until the next stage has room.
abbrev pub stage_departs : ℕ → List ℕ → List ℕ → List (List ℕ) → List ℕ
stage_departs came [] demands left = []
stage_departs came (places ∷ more) [] left = []
stage_departs came (places ∷ more) (demand ∷ demands) [] = []
stage_departs came (places ∷ more) (demand ∷ demands) (times ∷ left) =
    let time = max (max came (time_or_none (slice_get times 0)) + demand) (room_in more left) in
    time ∷ stage_departs time more demands left

-- each of these departures added in front of those of its stage
abbrev pub each_before : List ℕ → List (List ℕ) → List (List ℕ)
each_before [] left = []
each_before (time ∷ times) [] = []
each_before (time ∷ times) (earlier ∷ left) = (time ∷ earlier) ∷ each_before times left

-- the last of some times, or 0
abbrev pub last_time : List ℕ → ℕ
last_time [] = 0
last_time (time ∷ []) = time
last_time (time ∷ (next ∷ times)) = last_time (next ∷ times)

-- the first item of each list, or 0
abbrev pub firsts : List (List ℕ) → List ℕ
firsts lists = map (λ list. time_or_none (slice_get list 0)) lists

-- a list without its first item
abbrev pub rest : List ℕ → List ℕ
rest [] = []
rest (item ∷ items) = items

-- from the last stage of a tandem, given the places of the stages, the departures from each so far (the latest first), the
-- arrivals, and the demands at each stage
abbrev pub tandem_departs : List ℕ → List (List ℕ) → List ℕ → List (List ℕ) → List ℕ
tandem_departs places left [] demands = []
tandem_departs places left (arrive ∷ arrives) demands =
    let times = stage_departs arrive places (firsts demands) left in
    last_time times ∷ tandem_departs places (each_before times left) arrives (map rest demands)
