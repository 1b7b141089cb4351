-- Why a run is refused, as faults tell it.
use Rattle.mq_core.specs.Results.{Refusal}
use Rattle.mq_core.specs.Results.Refusal.{Over, Past}
use Rattle.mq_stations.specs.Late.{late_told}
use Rattle.mq_core.specs.declared.refusals.OverFault.{OverFault}
use Rattle.mq_core.specs.declared.refusals.PastFault.{PastFault}

-- a node with too many visits
abbrev pub over_told : OverFault → Refusal
over_told fault = Over fault.node fault.count

-- a visit that departs after the bound
abbrev pub past_told : PastFault → Refusal
past_told fault = Past (late_told fault)
