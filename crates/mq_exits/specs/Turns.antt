-- What a node of a wave gives: how it ends, or, in a run that keeps numbers, what came to a station and when each job departs in its turn.
use Rattle.std.specs.Prelude.{◌≡◌, ℕ, List, [], ◌∷◌}
use Rattle.mq_core.specs.declared.model.Plan.{Plan}
use Rattle.mq_core.specs.declared.model.Rows.{Rows}
use Rattle.mq_stats.specs.InTurn.{KeepTurn, stream_in_turn, visits_in_turn}
use Rattle.mq_merge.specs.Borrowed.{stream_in}
use Rattle.mq_exits.specs.Results.{IsResultOf}
use Rattle.mq_exits.specs.declared.keeping.Keep.{Keep}
use Rattle.mq_exits.specs.declared.keeping.Keep.TheVariants.{Numbers}
use Rattle.mq_exits.specs.declared.turns.Given.{Given}
use Rattle.mq_exits.specs.declared.turns.Given.TheVariants.{Ended, InTurn as Turned}
use Rattle.mq_exits.specs.declared.turns.InTurn.{InTurn}
use Rattle.mq_exits.specs.declared.working.Ending.TheVariants.{OnTime}
use Rattle.mq_exits.specs.declared.working.NodeResult.{NodeResult}

-- how a node ends, as if its visits and its stream were made
abbrev pub result_in_turn : InTurn → NodeResult
result_in_turn it =
    record {
      number = it.held.number;
      ending = OnTime (visits_in_turn (stream_in it.held.arrivals) it.departs) (stream_in_turn (stream_in it.held.arrivals) it.departs ∷ []);
    }

abbrev pub result_given : Given → NodeResult
result_given (Ended node_result) = node_result
result_given (Turned it) = result_in_turn it

-- what one of these nodes gives is what the run has, and it is an end if the run keeps lists
abbrev pub IsGiven : Keep → Plan → Rows → List ℕ → Given → Type 0
IsGiven keep plan rows ready (Ended node_result) = IsResultOf plan rows ready node_result
IsGiven keep plan rows ready (Turned it) = (keep ≡ Numbers) × IsResultOf plan rows ready (result_in_turn it) × KeepTurn (stream_in it.held.arrivals) it.departs
