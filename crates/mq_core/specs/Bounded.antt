-- No run of a network is refused if no node copies jobs and its rows come early enough.
use Rattle.std.specs.Prelude.{◌≡◌, ◌+◌, ◌*◌, ◌^◌, ◌≤◌, ℕ, All, length, None}
use Rattle.mq_core.specs.NetworkRun.{refusal_in}
use Rattle.mq_core.specs.Results.{refusal_of}
use Rattle.mq_core.specs.SequenceLaws.{NoNodeCopies}
use Rattle.mq_core.specs.Theorems.{IsReadFor}
use Rattle.mq_core.specs.declared.model.Plan.{Plan}
use Rattle.mq_core.specs.declared.model.Rows.{Rows}

-- The latest possible departure, if no row comes later than `last`: at each node each job adds at most the demands of 8 servers,
-- each at most 2^36.
abbrev pub latest_departure : ℕ → ℕ → ℕ → ℕ
latest_departure last nodes jobs = last + nodes * (jobs * 2 ^ 39)

-- if no node copies jobs and the latest possible departure isn't after the bound, the run isn't refused
abbrev pub DeparturesAreBounded : Type 0
DeparturesAreBounded =
    (plan : Plan) (rows : Rows) (last : ℕ) → IsReadFor plan.net rows → NoNodeCopies plan.net → All (λ time. time ≤ last) rows.time →
    latest_departure last (length plan.net.nodes) (length rows.time) ≤ plan.net.bound →
    (refusal_of plan rows ≡ None) × (refusal_in plan.net rows ≡ None)
