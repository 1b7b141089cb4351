-- What a run answers.
use Rattle.std.specs.Prelude.{◌≡◌, Some}
use Rattle.mq_core.specs.Results.{refusal_of}
use Rattle.mq_core.specs.declared.model.Plan.{Plan}
use Rattle.mq_core.specs.declared.model.Rows.{Rows}
use Rattle.mq_exits.specs.Refusals.{over_told, past_told}
use Rattle.mq_engine.specs.declared.fault.RunFault.{RunFault}
use Rattle.mq_engine.specs.declared.fault.RunFault.TheVariants.{Memory, Over, Past}

-- a fault names the node that has too many visits, or the first departure after the bound, or memory ran out
abbrev pub IsCause : Plan → Rows → RunFault → Type 0
IsCause plan rows (Over fault) = refusal_of plan rows ≡ Some (over_told fault)
IsCause plan rows (Past fault) = refusal_of plan rows ≡ Some (past_told fault)
IsCause plan rows Memory = Unit {0}
