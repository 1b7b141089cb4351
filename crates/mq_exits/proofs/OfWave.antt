-- The nodes of a wave: for the proofs of mq_engine too.
use Rattle.std.proofs.Common.{ℕ, List}
use Rattle.mq_core.specs.declared.model.Plan.{Plan}
use Rattle.mq_core.specs.declared.model.Rows.{Rows}
use Rattle.mq_exits.specs.Results.{IsResultOf}
use Rattle.mq_exits.specs.Turns.{IsGiven}
use Rattle.mq_exits.specs.declared.keeping.Keep.{Keep}
use Rattle.mq_exits.specs.declared.keeping.Keep.TheVariants.{Lists}
use Rattle.mq_exits.specs.declared.turns.Given.{Given}
use Rattle.mq_exits.specs.declared.working.NodeResult.{NodeResult}

-- of a plan over rows
abbrev pub Wave : Type 0
Wave = Plan × Rows × List ℕ

abbrev pub IsEndIn : Wave → NodeResult → Type 0
IsEndIn w node_result = IsResultOf w.0 w.1 w.2 node_result

-- the same in a run that keeps this
abbrev pub Keeps : Type 0
Keeps = Keep × Wave

abbrev pub IsGivenIn : Keeps → Given → Type 0
IsGivenIn k given = IsGiven k.0 k.1.0 k.1.1 k.1.2 given

abbrev pub IsListIn : Wave → Given → Type 0
IsListIn w given = IsGiven Lists w.0 w.1 w.2 given

-- what is given is an end, in some wave of a run that keeps lists
abbrev pub CanFinish : Given → Type 0
CanFinish given = (w : Wave) × IsListIn w given
