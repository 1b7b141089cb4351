-- The run of a network over rows, for definitions that have a network and no plan.
use Rattle.std.specs.Prelude.{◌≡◌, length, slice_get, Option}
use Rattle.mq_core.specs.Machine.{Table, State, after, opened}
use Rattle.mq_core.specs.Local.{Local}
use Rattle.mq_core.specs.Results.{Refusal, first_refusal, refusal_at, refusal_of}
use Rattle.mq_core.specs.Run.{run_length, starts}
use Rattle.mq_core.specs.Standard.{node_on, node_opening, node_jobs, node_working}
use Rattle.mq_core.specs.StandardTable.{run_of}
use Rattle.mq_core.specs.Wiring.{inputs_of, rank_in, ranking, reader_from}
use Rattle.mq_core.specs.declared.model.Network.{Network}
use Rattle.mq_core.specs.declared.model.Plan.{Plan}
use Rattle.mq_core.specs.declared.model.Rows.{Rows}

-- the handlers of the kinds, over the nodes, the wiring and the ranking of a network
abbrev pub network_table : Network → Rows → Table Local
network_table net rows =
    record {
      opening = λ v. node_opening (slice_get net.nodes v);
      handle = λ v visits local now event. node_on rows (slice_get net.nodes v) visits local now event;
      jobs = λ v visits local. node_jobs (slice_get net.nodes v) visits local;
      working = λ v visits local. node_working (slice_get net.nodes v) local;
      reader = reader_from 0 net.nodes;
      rank = rank_in (ranking net.nodes);
      ports = λ v. length (inputs_of net.nodes v);
    }

-- the state after the steps of a run, when nothing is pending any more
abbrev pub run_in : Network → Rows → State Local
run_in net rows = after (run_length net.nodes rows) (network_table net rows) (opened (network_table net rows) (starts rows))

-- the refusal of a run: that of the node of least rank that has one
abbrev pub refusal_in : Network → Rows → Option Refusal
refusal_in net rows = first_refusal (λ v. refusal_at net.bound v (slice_get net.nodes v) ((run_in net rows).stations v)) (ranking net.nodes)

-- the run of a plan is that of its network, and so is its refusal
abbrev pub RunsAreOfNetworks : Type 0
RunsAreOfNetworks =
    (plan : Plan) (rows : Rows) → (run_of plan rows ≡ run_in plan.net rows) × (refusal_of plan rows ≡ refusal_in plan.net rows)
