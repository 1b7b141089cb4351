-- A visit that departs after the bound.
use Rattle.mq_core.specs.Results.{Late}
use Rattle.mq_core.specs.declared.refusals.PastFault.{PastFault}

-- the visit that a fault names
abbrev pub late_told : PastFault → Late
late_told fault = record { node = fault.node; position = fault.position; time = fault.time }
