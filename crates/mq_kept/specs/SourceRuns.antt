-- What a source gives whose lists are edited in place.
use Rattle.std.specs.Prelude.{◌≡◌, ℕ, Some}
use Rattle.mq_arrivals.specs.declared.nodes.Arriving.{Arriving}
use Rattle.mq_core.specs.declared.model.Rows.{Rows}
use Rattle.mq_kept.specs.NodeRuns.{IsNodeRun}
use Rattle.mq_kept.specs.declared.former.NodeLists.{NodeLists}
use Rattle.mq_kept.specs.declared.source_runs.Edited.{Edited}
use Rattle.mq_kept.specs.declared.source_runs.Edited.TheVariants.{Done, AsBefore}

-- the source gives what the run has, or its lists are as they were
abbrev pub IsEdited : Arriving → Rows → NodeLists → ℕ → Edited → Type 0
IsEdited s old lists v (Done gives) = IsNodeRun s (Some old) lists v gives
IsEdited s old lists v (AsBefore same) = same ≡ lists
