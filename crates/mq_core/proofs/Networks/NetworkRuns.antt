-- That a run is that of its network.
use Rattle.std.proofs.Common.{◌≡◌, ℕ, List, ap, slice_get}
use Rattle.mq_core.specs.Local.{Local}
use Rattle.mq_core.specs.Machine.{Table, after, opened}
use Rattle.mq_core.specs.NetworkRun.{network_table, run_in, RunsAreOfNetworks}
use Rattle.mq_core.specs.Results.{first_refusal, refusal_at}
use Rattle.mq_core.specs.Run.{run_length, starts}
use Rattle.mq_core.specs.Standard.{standard_opening, standard_handle, standard_jobs, standard_working}
use Rattle.mq_core.specs.StandardTable.{standard, run_of}
use Rattle.mq_core.specs.Wiring.{rank_in}
use Rattle.mq_core.specs.declared.model.Plan.{Plan}
use Rattle.mq_core.specs.declared.model.Rows.{Rows}

-- the tables are the same, since the order of a plan is the ranking of its network
same-table : (plan : Plan) (rows : Rows) → standard plan rows ≡ network_table plan.net rows
unfolding standard_opening standard_handle standard_jobs standard_working
same-table plan rows = ap (λ (order : List ℕ). let t : Table Local = record (network_table plan.net rows) { rank = rank_in order } in t) plan.ranked

same-run : (plan : Plan) (rows : Rows) → run_of plan rows ≡ run_in plan.net rows
same-run plan rows = ap (λ t. after (run_length plan.net.nodes rows) t (opened t (starts rows))) (same-table plan rows)

pub runs-are-of-networks : RunsAreOfNetworks
runs-are-of-networks plan rows = (
  same-run plan rows,
  λ i.
      first_refusal (λ v. refusal_at plan.net.bound v (slice_get plan.net.nodes v) ((same-run plan rows i).stations v)) (plan.ranked i),
)
