-- Worked runs by the few steps after which nothing is pending.
use Rattle.std.proofs.Common.{Option, [], slice_get, subst, sym, ℕ, ◌≡◌, ◌≤◌}
use Rattle.mq_core.specs.Local.{Local}
use Rattle.mq_core.specs.Machine.{State, after, opened}
use Rattle.mq_core.specs.NetworkRun.{network_table, run_in}
use Rattle.mq_core.specs.Results.{Refusal, first_refusal, refusal_at}
use Rattle.mq_core.specs.Run.{run_length, starts}
use Rattle.mq_core.specs.Wiring.{ranking}
use Rattle.mq_core.specs.declared.model.Network.{Network}
use Rattle.mq_core.specs.declared.model.Rows.{Rows}
use Rattle.mq_core.proofs.Events.Settled.{settles}

-- the state after so many steps
abbrev pub soon : ℕ → Network → Rows → State Local
soon count net rows = after count (network_table net rows) (opened (network_table net rows) (starts rows))

-- what holds of it once nothing is pending holds of the run
pub at-end : (count : ℕ) (net : Network) (rows : Rows) (P : State Local → Type 0) → count ≤ run_length net.nodes rows → (soon count net rows).pending ≡ [] → P (soon count net rows) → P (run_in net rows)
at-end count net rows P short none holds =
    subst P (sym (settles count (run_length net.nodes rows) (network_table net rows) (opened (network_table net rows) (starts rows)) short none)) holds

-- the refusal of a state by the bound of a network
abbrev pub refused_in : Network → State Local → Option Refusal
refused_in net end = first_refusal (λ v. refusal_at net.bound v (slice_get net.nodes v) (end.stations v)) (ranking net.nodes)
