-- Small networks with a tandem, worked by hand: what a run of each gives, by computing the event list.
use Rattle.mq_core.specs.Came.{came_by}
use Rattle.std.proofs.Common.{◌≡◌, ℕ, false, List, [], ◌∷◌, refl, arith}
use Rattle.std.specs.Prelude.{IsTrue, codes}
use Rattle.mq_core.specs.Sequences.{sequence_stream, sequence_totals, sequence_visits}
use Rattle.mq_core.specs.Event.{earliest, is_below, order_key, sooner_of}
use Rattle.mq_core.specs.Local.{Local}
use Rattle.mq_core.specs.Machine.{State, after, step}
use Rattle.mq_core.specs.NetworkRun.{run_in}
use Rattle.mq_core.specs.Results.{bare_time, exit_of, totals_of, servers_in}
use Rattle.mq_core.specs.Sound.{is_sound}
use Rattle.mq_core.specs.Wiring.{first_ready, port_reading, rank_in, ranked_after, reader_from}
use Rattle.mq_core.specs.declared.model.Demand.{Demand}
use Rattle.mq_core.specs.declared.model.Demand.TheVariants.{Column, Fixed}
use Rattle.mq_core.specs.declared.model.Fate.TheVariants.{Departs}
use Rattle.mq_core.specs.declared.model.Kind.TheVariants.{Source, Tandem}
use Rattle.mq_core.specs.declared.model.Network.{Network}
use Rattle.mq_core.specs.declared.model.Rows.{Rows}
use Rattle.mq_core.specs.declared.model.Stage.{Stage}
use Rattle.mq_core.proofs.Known.ShortRuns.{at-end}
use Rattle.mq_core.proofs.Known.WorkedRows.{node_of, from, net_of, rows_of, seen, EndsAt}

abbrev stage : ℕ → Demand → Stage
stage places demand = record { places = places; demand = demand }

-- one source and one tandem
abbrev line_net : List (List ℕ) → List Stage → Network
line_net columns stages = net_of columns 100 (node_of (codes "src") Source [] ∷ node_of (codes "t") (Tandem stages) (from 0 ∷ []) ∷ [])

-- Three jobs at once, and a slow second stage with one place: it blocks the first.
abbrev blocking_stages : List Stage
blocking_stages = stage 0 (Fixed 1) ∷ stage 1 (Fixed 3) ∷ []

abbrev blocking_rows : Rows
blocking_rows = rows_of (0 ∷ 0 ∷ 0 ∷ []) (0 ∷ 0 ∷ 0 ∷ []) []

abbrev IsBlocking : State Local → Type 0
IsBlocking end =
    EndsAt end 10
    × (seen end 1 ≡ record { left = (0, 0, 4) ∷ (1, 0, 7) ∷ (2, 0, 10) ∷ []; found = 0 ∷ 1 ∷ 2 ∷ []; area = 21; busy = 12 })
    × (totals_of blocking_rows (Tandem blocking_stages) (end.stations 1) ≡ record { came = 3; left = 3; lost = 0; held = 0; wait = 9; longest = 6; busy = 12; area = 21; peak = 3 })
    × (exit_of blocking_rows (end.stations 1) 0 ≡ (3, 21))

blocking-row : IsTrue (is_sound (line_net [] blocking_stages)) × IsBlocking (run_in (line_net [] blocking_stages) blocking_rows)
unfolding after step earliest sooner_of is_below order_key rank_in reader_from port_reading ranked_after first_ready
blocking-row = (refl, at-end 12 (line_net [] blocking_stages) blocking_rows IsBlocking (omega arith) refl ((refl, refl), refl, refl, refl))

-- The second job is done at the first stage at 2 and stays there until 4, when the first job leaves; only then the third begins.
abbrev column_stages : List Stage
column_stages = stage 0 (Column 0) ∷ stage 1 (Column 1) ∷ []

abbrev column_rows : Rows
column_rows = rows_of (0 ∷ 0 ∷ 0 ∷ []) (0 ∷ 0 ∷ 0 ∷ []) ((1 ∷ 1 ∷ 5 ∷ []) ∷ (3 ∷ 1 ∷ 1 ∷ []) ∷ [])

abbrev column_net : Network
column_net = line_net (codes "a" ∷ codes "b" ∷ []) column_stages

abbrev IsColumn : State Local → Type 0
IsColumn end =
    EndsAt end 10
    × (seen end 1 ≡ record { left = (0, 0, 4) ∷ (1, 0, 5) ∷ (2, 0, 10) ∷ []; found = 0 ∷ 1 ∷ 2 ∷ []; area = 19; busy = 12 })
    × (totals_of column_rows (Tandem column_stages) (end.stations 1) ≡ record { came = 3; left = 3; lost = 0; held = 0; wait = 7; longest = 4; busy = 12; area = 19; peak = 3 })
    × (exit_of column_rows (end.stations 1) 0 ≡ (3, 19))

column-row : IsTrue (is_sound column_net) × IsColumn (run_in column_net column_rows)
unfolding after step earliest sooner_of is_below order_key rank_in reader_from port_reading ranked_after first_ready
column-row = (refl, at-end 12 column_net column_rows IsColumn (omega arith) refl ((refl, refl), refl, refl, refl))

-- the same in sequences
column-sequences : (sequence_visits column_rows (Tandem column_stages) (came_by (0 ∷ 1 ∷ 2 ∷ []) (0 ∷ 0 ∷ 0 ∷ [])) ≡ record { job = 0 ∷ 1 ∷ 2 ∷ []; arrive = 0 ∷ 0 ∷ 0 ∷ []; found = 0 ∷ 1 ∷ 2 ∷ []; fate = Departs 4 ∷ Departs 5 ∷ Departs 10 ∷ [] })
    × (sequence_stream column_rows (Tandem column_stages) (came_by (0 ∷ 1 ∷ 2 ∷ []) (0 ∷ 0 ∷ 0 ∷ [])) 0 ≡ record { job = 0 ∷ 1 ∷ 2 ∷ []; time = 4 ∷ 5 ∷ 10 ∷ [] })
    × (sequence_totals column_rows (Tandem column_stages) (sequence_visits column_rows (Tandem column_stages) (came_by (0 ∷ 1 ∷ 2 ∷ []) (0 ∷ 0 ∷ 0 ∷ []))) 10 ≡ record { came = 3; left = 3; lost = 0; held = 0; wait = 7; longest = 4; busy = 12; area = 19; peak = 3 })
    × (bare_time column_rows (Tandem column_stages) 2 ≡ 6) × (servers_in (Tandem column_stages) ≡ 2)
column-sequences = (refl, refl, refl, refl, refl)

-- Three stages, the last of them slow: when it ends, the fronts of all stages move, each by one stage.
abbrev long_stages : List Stage
long_stages = stage 0 (Fixed 1) ∷ stage 1 (Fixed 1) ∷ stage 1 (Fixed 5) ∷ []

abbrev long_rows : Rows
long_rows = rows_of (0 ∷ 0 ∷ 0 ∷ 0 ∷ []) (0 ∷ 0 ∷ 0 ∷ 0 ∷ []) []

abbrev IsLong : State Local → Type 0
IsLong end =
    EndsAt end 22
    × (seen end 1 ≡ record { left = (0, 0, 7) ∷ (1, 0, 12) ∷ (2, 0, 17) ∷ (3, 0, 22) ∷ []; found = 0 ∷ 1 ∷ 2 ∷ 3 ∷ []; area = 58; busy = 28 })

long-row : IsTrue (is_sound (line_net [] long_stages)) × IsLong (run_in (line_net [] long_stages) long_rows)
unfolding after step earliest sooner_of is_below order_key rank_in reader_from port_reading ranked_after first_ready
long-row = (refl, at-end 20 (line_net [] long_stages) long_rows IsLong (omega arith) refl ((refl, refl), refl))

-- a demand of 0 at each stage: a job goes through at once, also where others come at the same time
abbrev idle_net : Network
idle_net = line_net [] (stage 0 (Fixed 0) ∷ stage 2 (Fixed 0) ∷ [])

abbrev idle_rows : Rows
idle_rows = rows_of (0 ∷ 0 ∷ []) (3 ∷ 3 ∷ []) []

abbrev IsIdle : State Local → Type 0
IsIdle end = EndsAt end 3 × (seen end 1 ≡ record { left = (0, 0, 3) ∷ (1, 0, 3) ∷ []; found = 0 ∷ 0 ∷ []; area = 0; busy = 0 })

idle-row : IsIdle (run_in idle_net idle_rows)
unfolding after step earliest sooner_of is_below order_key rank_in reader_from port_reading ranked_after first_ready
idle-row = at-end 8 idle_net idle_rows IsIdle (omega arith) refl ((refl, refl), refl)

-- one stage is too few and five are too many; the first has no place, and each other 1 to 4
range-row : (is_sound (line_net [] (stage 0 (Fixed 1) ∷ [])) ≡ false)
    × (is_sound (line_net [] (stage 0 (Fixed 1) ∷ stage 1 (Fixed 1) ∷ stage 1 (Fixed 1) ∷ stage 1 (Fixed 1) ∷ stage 1 (Fixed 1) ∷ [])) ≡ false)
    × (is_sound (line_net [] (stage 1 (Fixed 1) ∷ stage 1 (Fixed 1) ∷ [])) ≡ false)
    × (is_sound (line_net [] (stage 0 (Fixed 1) ∷ stage 0 (Fixed 1) ∷ [])) ≡ false)
    × (is_sound (line_net [] (stage 0 (Fixed 1) ∷ stage 5 (Fixed 1) ∷ [])) ≡ false)
    × IsTrue (is_sound (line_net [] (stage 0 (Fixed 1) ∷ stage 4 (Fixed 1) ∷ stage 4 (Fixed 1) ∷ stage 4 (Fixed 1) ∷ [])))
range-row = (refl, refl, refl, refl, refl, refl)
