-- Fork-joins worked by hand: each row below says what a run of one gives, and holds by computing the event list.
use Rattle.mq_core.specs.Came.{came_by}
use Rattle.std.proofs.Common.{◌≡◌, false, [], ◌∷◌, refl, arith}
use Rattle.std.specs.Prelude.{IsTrue, codes}
use Rattle.mq_core.specs.Sequences.{sequence_exit, sequence_stream, sequence_totals, sequence_visits}
use Rattle.mq_core.specs.Event.{earliest, is_below, order_key, sooner_of}
use Rattle.mq_core.specs.Local.{Local}
use Rattle.mq_core.specs.Machine.{State, after, step}
use Rattle.mq_core.specs.NetworkRun.{run_in}
use Rattle.mq_core.specs.Results.{bare_time, exit_of, servers_in, totals_of}
use Rattle.mq_core.specs.Kinds.ForkJoin.{are_sound_branches}
use Rattle.mq_core.specs.Sound.{is_sound}
use Rattle.mq_core.specs.Wiring.{first_ready, port_reading, rank_in, ranked_after, reader_from}
use Rattle.mq_core.specs.declared.model.Demand.TheVariants.{Column, Fixed}
use Rattle.mq_core.specs.declared.model.Fate.TheVariants.{Departs}
use Rattle.mq_core.specs.declared.model.Kind.{Kind}
use Rattle.mq_core.specs.declared.model.Kind.TheVariants.{ForkJoin, Source}
use Rattle.mq_core.specs.declared.model.Network.{Network}
use Rattle.mq_core.specs.declared.model.Rows.{Rows}
use Rattle.mq_core.specs.declared.model.Visits.{Visits}
use Rattle.mq_core.proofs.Known.ShortRuns.{at-end}
use Rattle.mq_core.proofs.Known.WorkedRows.{EndsAt, from, net_of, node_of, rows_of, seen}

-- one source and one fork-join
abbrev forkjoin_net : Kind → Network
forkjoin_net kind = net_of (codes "a" ∷ codes "b" ∷ []) 100 (node_of (codes "src") Source [] ∷ node_of (codes "f") kind (from 0 ∷ []) ∷ [])

-- Two branches of one server: the slower decides.
abbrev two_branches : Kind
two_branches = ForkJoin ((Fixed 2 ∷ []) ∷ (Fixed 3 ∷ []) ∷ [])

abbrev two_rows : Rows
two_rows = rows_of (0 ∷ 0 ∷ []) (0 ∷ 1 ∷ []) ([] ∷ [] ∷ [])

abbrev IsForkJoined : State Local → Type 0
IsForkJoined end =
    EndsAt end 6
    × (seen end 1 ≡ record { left = (0, 0, 3) ∷ (1, 0, 6) ∷ []; found = 0 ∷ 1 ∷ []; area = 8; busy = 10 })
    × (totals_of two_rows two_branches (end.stations 1) ≡ record { came = 2; left = 2; lost = 0; held = 0; wait = 2; longest = 2; busy = 10; area = 8; peak = 2 })
    × (exit_of two_rows (end.stations 1) 0 ≡ (2, 8))

forkjoin-row : IsForkJoined (run_in (forkjoin_net two_branches) two_rows) × (servers_in two_branches ≡ 2) × (bare_time two_rows two_branches 0 ≡ 3)
unfolding after step earliest sooner_of is_below order_key rank_in reader_from port_reading ranked_after first_ready
forkjoin-row = (at-end 8 (forkjoin_net two_branches) two_rows IsForkJoined (omega arith) refl ((refl, refl), refl, refl, refl), refl, refl)

-- the same in sequences
abbrev forkjoin_visits : Visits
forkjoin_visits = record { job = 0 ∷ 1 ∷ []; arrive = 0 ∷ 1 ∷ []; found = 0 ∷ 1 ∷ []; fate = Departs 3 ∷ Departs 6 ∷ [] }

forkjoin-sequences : (sequence_visits two_rows two_branches (came_by (0 ∷ 1 ∷ []) (0 ∷ 1 ∷ [])) ≡ forkjoin_visits)
    × (sequence_stream two_rows two_branches (came_by (0 ∷ 1 ∷ []) (0 ∷ 1 ∷ [])) 0 ≡ record { job = 0 ∷ 1 ∷ []; time = 3 ∷ 6 ∷ [] })
    × (sequence_totals two_rows two_branches forkjoin_visits 6 ≡ record { came = 2; left = 2; lost = 0; held = 0; wait = 2; longest = 2; busy = 10; area = 8; peak = 2 })
    × (sequence_exit two_rows (record { job = 0 ∷ 1 ∷ []; time = 3 ∷ 6 ∷ [] }) ≡ (2, 8))
forkjoin-sequences = (refl, refl, refl, refl)

-- A branch of two servers beside one of a single server.
abbrev series : Kind
series = ForkJoin ((Fixed 1 ∷ Fixed 2 ∷ []) ∷ (Fixed 4 ∷ []) ∷ [])

abbrev IsSeries : State Local → Type 0
IsSeries end =
    EndsAt end 8
    × (seen end 1 ≡ record { left = (0, 0, 4) ∷ (1, 0, 8) ∷ []; found = 0 ∷ 1 ∷ []; area = 11; busy = 14 })
    × (totals_of two_rows series (end.stations 1) ≡ record { came = 2; left = 2; lost = 0; held = 0; wait = 3; longest = 3; busy = 14; area = 11; peak = 2 })
    × (exit_of two_rows (end.stations 1) 0 ≡ (2, 11))

series-row : IsSeries (run_in (forkjoin_net series) two_rows) × (servers_in series ≡ 3) × (bare_time two_rows series 0 ≡ 4)
unfolding after step earliest sooner_of is_below order_key rank_in reader_from port_reading ranked_after first_ready
series-row = (at-end 10 (forkjoin_net series) two_rows IsSeries (omega arith) refl ((refl, refl), refl, refl, refl), refl, refl)

-- The second job is through one branch long before the first is through the other, and still leaves behind it.
abbrev crossed : Kind
crossed = ForkJoin ((Column 0 ∷ []) ∷ (Column 1 ∷ []) ∷ [])

abbrev crossed_rows : Rows
crossed_rows = rows_of (0 ∷ 0 ∷ 0 ∷ []) (0 ∷ 0 ∷ 5 ∷ []) ((5 ∷ 1 ∷ 0 ∷ []) ∷ (1 ∷ 1 ∷ 0 ∷ []) ∷ [])

abbrev IsCrossed : State Local → Type 0
IsCrossed end =
    EndsAt end 6
    × (seen end 1 ≡ record { left = (0, 0, 5) ∷ (1, 0, 6) ∷ (2, 0, 6) ∷ []; found = 0 ∷ 1 ∷ 1 ∷ []; area = 12; busy = 8 })

crossed-row : IsTrue (is_sound (forkjoin_net crossed)) × IsCrossed (run_in (forkjoin_net crossed) crossed_rows)
unfolding after step earliest sooner_of is_below order_key rank_in reader_from port_reading ranked_after first_ready
crossed-row = (refl, at-end 12 (forkjoin_net crossed) crossed_rows IsCrossed (omega arith) refl ((refl, refl), refl))

-- Jobs that ask for nothing leave as they come, one after another.
abbrev idle : Kind
idle = ForkJoin ((Fixed 0 ∷ Fixed 0 ∷ []) ∷ (Fixed 0 ∷ []) ∷ [])

abbrev IsIdle : State Local → Type 0
IsIdle end = seen end 1 ≡ record { left = (0, 0, 0) ∷ (1, 0, 1) ∷ []; found = 0 ∷ 0 ∷ []; area = 0; busy = 0 }

idle-row : IsIdle (run_in (forkjoin_net idle) two_rows)
unfolding after step earliest sooner_of is_below order_key rank_in reader_from port_reading ranked_after first_ready
idle-row = at-end 10 (forkjoin_net idle) two_rows IsIdle (omega arith) refl refl

-- One branch, a branch without a server, five servers in a branch, and nine servers are each refused.
limits-row : (are_sound_branches 0 ((Fixed 1 ∷ []) ∷ []) ≡ false) × (are_sound_branches 0 ((Fixed 1 ∷ []) ∷ [] ∷ []) ≡ false)
    × (are_sound_branches 0 ((Fixed 1 ∷ Fixed 1 ∷ Fixed 1 ∷ Fixed 1 ∷ Fixed 1 ∷ []) ∷ (Fixed 1 ∷ []) ∷ []) ≡ false)
    × (are_sound_branches 0 ((Fixed 1 ∷ Fixed 1 ∷ Fixed 1 ∷ Fixed 1 ∷ []) ∷ (Fixed 1 ∷ Fixed 1 ∷ Fixed 1 ∷ Fixed 1 ∷ []) ∷ (Fixed 1 ∷ []) ∷ []) ≡ false)
    × IsTrue (are_sound_branches 0 ((Fixed 1 ∷ Fixed 1 ∷ Fixed 1 ∷ Fixed 1 ∷ []) ∷ (Fixed 1 ∷ Fixed 1 ∷ Fixed 1 ∷ Fixed 1 ∷ []) ∷ []))
limits-row = (refl, refl, refl, refl, refl)
