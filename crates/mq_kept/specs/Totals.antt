-- How much of a run is redone after what is kept of another.
use Rattle.std.specs.Prelude.{ℕ, [], Option, Some, None, slice_get, sum_by}
use Rattle.mq_alike.specs.Again.{Coming, again_of, coming_in, worked_of}
use Rattle.mq_core.specs.Wiring.{ranking}
use Rattle.mq_core.specs.declared.model.Network.{Network}
use Rattle.mq_core.specs.declared.model.Rows.{Rows}

-- what came to a node in the kept run of a network: nothing if no run is kept
abbrev pub came_in_kept : Network → Rows → Option Rows → ℕ → Coming
came_in_kept net rows None v = record { rows = rows; job = []; arrive = [] }
came_in_kept net rows (Some old) v = coming_in net old v

-- the number of blocks of all nodes, by rank, that are redone: all blocks if nothing is kept
abbrev pub all_again : Network → Option Rows → Rows → ℕ → ℕ
all_again net old rows block = sum_by (λ v. again_of block (slice_get net.nodes v) (came_in_kept net rows old v) (coming_in net rows v)) (ranking net.nodes)

-- the number of these blocks that are worked
abbrev pub all_worked : Network → Option Rows → Rows → ℕ → ℕ
all_worked net old rows block = sum_by (λ v. worked_of block (slice_get net.nodes v) (came_in_kept net rows old v) (coming_in net rows v)) (ranking net.nodes)
