-- Small networks with a loss station, worked by hand: each row below holds by computing the event list.
use Rattle.mq_core.specs.Came.{came_by}
use Rattle.std.proofs.Common.{◌≡◌, ℕ, false, [], ◌∷◌, refl, arith}
use Rattle.std.specs.Prelude.{IsTrue, codes}
use Rattle.mq_core.specs.Sequences.{sequence_exit, sequence_stream, sequence_totals, sequence_visits}
use Rattle.mq_core.specs.Event.{earliest, is_below, order_key, sooner_of}
use Rattle.mq_core.specs.Local.{Local}
use Rattle.mq_core.specs.Machine.{State, after, step}
use Rattle.mq_core.specs.NetworkRun.{run_in}
use Rattle.mq_core.specs.Results.{exit_of, stream_from, totals_of, visits_of}
use Rattle.mq_core.specs.Sound.{is_sound}
use Rattle.mq_core.specs.Wiring.{first_ready, port_reading, rank_in, ranked_after, reader_from}
use Rattle.mq_core.specs.declared.model.Demand.TheVariants.{Fixed}
use Rattle.mq_core.specs.declared.model.Fate.TheVariants.{Departs, Lost}
use Rattle.mq_core.specs.declared.model.Kind.TheVariants.{Loss, Server, Source}
use Rattle.mq_core.specs.declared.model.Network.{Network}
use Rattle.mq_core.specs.declared.model.Rows.{Rows}
use Rattle.mq_core.specs.declared.model.Visits.{Visits}
use Rattle.mq_core.proofs.Known.ShortRuns.{at-end}
use Rattle.mq_core.proofs.Known.WorkedRows.{EndsAt, from, net_of, node_of, rows_of, seen}

-- one source, and a loss station of as many places with this demand
abbrev loss_net : ℕ → ℕ → Network
loss_net places demand = net_of [] 100 (node_of (codes "src") Source [] ∷ node_of (codes "l") (Loss places (Fixed demand)) (from 0 ∷ []) ∷ [])

abbrev four : Rows
four = rows_of (0 ∷ 0 ∷ 0 ∷ 0 ∷ []) (0 ∷ 1 ∷ 2 ∷ 3 ∷ []) []

-- a loss station has 1 to 1,048,576 places
places-sound : IsTrue (is_sound (loss_net 1 2)) × IsTrue (is_sound (loss_net 1048576 2)) × (is_sound (loss_net 0 2) ≡ false) × (is_sound (loss_net 1048577 2) ≡ false)
places-sound = (refl, refl, refl, refl)

-- One place: every other arrival is lost, and one that comes as the place is left is admitted.
abbrev single_visits : Visits
single_visits =
    record { job = 0 ∷ 1 ∷ 2 ∷ 3 ∷ []; arrive = 0 ∷ 1 ∷ 2 ∷ 3 ∷ []; found = 0 ∷ 1 ∷ 0 ∷ 1 ∷ []; fate = Departs 2 ∷ Lost ∷ Departs 4 ∷ Lost ∷ [] }

abbrev IsSingle : State Local → Type 0
IsSingle end =
    EndsAt end 4
    × (seen end 1 ≡ record { left = (1, 1, 1) ∷ (0, 0, 2) ∷ (3, 1, 3) ∷ (2, 0, 4) ∷ []; found = 0 ∷ 1 ∷ 0 ∷ 1 ∷ []; area = 4; busy = 4 })
    × (totals_of four (Loss 1 (Fixed 2)) (end.stations 1) ≡ record { came = 4; left = 2; lost = 2; held = 0; wait = 0; longest = 0; busy = 4; area = 4; peak = 1 })
    × (exit_of four (end.stations 1) 0 ≡ (2, 4)) × (exit_of four (end.stations 1) 1 ≡ (2, 0))
    × (visits_of (Loss 1 (Fixed 2)) (end.stations 1) ≡ single_visits)
    × (stream_from (end.stations 1) 0 ≡ record { job = 0 ∷ 2 ∷ []; time = 2 ∷ 4 ∷ [] })
    × (stream_from (end.stations 1) 1 ≡ record { job = 1 ∷ 3 ∷ []; time = 1 ∷ 3 ∷ [] })

single-row : IsSingle (run_in (loss_net 1 2) four)
unfolding after step earliest sooner_of is_below order_key rank_in reader_from port_reading ranked_after first_ready
single-row = at-end 10 (loss_net 1 2) four IsSingle (omega arith) refl ((refl, refl), refl, refl, refl, refl, refl, refl, refl)

-- the same in sequences
sequences-single : (sequence_visits four (Loss 1 (Fixed 2)) (came_by (0 ∷ 1 ∷ 2 ∷ 3 ∷ []) (0 ∷ 1 ∷ 2 ∷ 3 ∷ [])) ≡ single_visits)
    × (sequence_stream four (Loss 1 (Fixed 2)) (came_by (0 ∷ 1 ∷ 2 ∷ 3 ∷ []) (0 ∷ 1 ∷ 2 ∷ 3 ∷ [])) 0 ≡ record { job = 0 ∷ 2 ∷ []; time = 2 ∷ 4 ∷ [] })
    × (sequence_stream four (Loss 1 (Fixed 2)) (came_by (0 ∷ 1 ∷ 2 ∷ 3 ∷ []) (0 ∷ 1 ∷ 2 ∷ 3 ∷ [])) 1 ≡ record { job = 1 ∷ 3 ∷ []; time = 1 ∷ 3 ∷ [] })
    × (sequence_totals four (Loss 1 (Fixed 2)) single_visits 4 ≡ record { came = 4; left = 2; lost = 2; held = 0; wait = 0; longest = 0; busy = 4; area = 4; peak = 1 })
    × (sequence_exit four (record { job = 1 ∷ 3 ∷ []; time = 1 ∷ 3 ∷ [] }) ≡ (2, 0))
sequences-single = (refl, refl, refl, refl, refl)

-- Two places: the third job finds both taken, and the fourth comes as the first leaves.
abbrev IsDouble : State Local → Type 0
IsDouble end =
    EndsAt end 9
    × (seen end 1 ≡ record { left = (2, 1, 2) ∷ (0, 0, 3) ∷ (1, 0, 6) ∷ (3, 0, 9) ∷ []; found = 0 ∷ 1 ∷ 2 ∷ 1 ∷ []; area = 14; busy = 9 })
    × (totals_of four (Loss 2 (Fixed 3)) (end.stations 1) ≡ record { came = 4; left = 3; lost = 1; held = 0; wait = 5; longest = 3; busy = 9; area = 14; peak = 2 })

double-row : IsDouble (run_in (loss_net 2 3) four)
unfolding after step earliest sooner_of is_below order_key rank_in reader_from port_reading ranked_after first_ready
double-row = at-end 11 (loss_net 2 3) four IsDouble (omega arith) refl ((refl, refl), refl, refl)

-- A server takes up those that are lost.
abbrev overflow_net : Network
overflow_net =
    net_of [] 100
    (node_of (codes "src") Source [] ∷ node_of (codes "l") (Loss 1 (Fixed 2)) (from 0 ∷ []) ∷ node_of (codes "o") (Server (Fixed 3)) (record { node = 1; out = 1 } ∷ []) ∷ [])

abbrev IsOverflow : State Local → Type 0
IsOverflow end =
    EndsAt end 7
    × (totals_of four (Loss 1 (Fixed 2)) (end.stations 1) ≡ record { came = 4; left = 2; lost = 2; held = 0; wait = 0; longest = 0; busy = 4; area = 4; peak = 1 })
    × (totals_of four (Server (Fixed 3)) (end.stations 2) ≡ record { came = 2; left = 2; lost = 0; held = 0; wait = 1; longest = 1; busy = 6; area = 7; peak = 2 })
    × (exit_of four (end.stations 1) 0 ≡ (2, 4)) × (exit_of four (end.stations 2) 0 ≡ (2, 7))

overflow-row : IsTrue (is_sound overflow_net) × IsOverflow (run_in overflow_net four)
unfolding after step earliest sooner_of is_below order_key rank_in reader_from port_reading ranked_after first_ready
overflow-row = (refl, at-end 14 overflow_net four IsOverflow (omega arith) refl ((refl, refl), refl, refl, refl, refl))
