-- The laws that the engine rests on: those of runs, and of what is gathered at a join.
use Rattle.mq_core.specs.SequenceLaws.{ArrivalsAreStreams, JobsAreRows, NodesAreSequences, SequencesAreBlind, StreamsRise}
use Rattle.mq_core.specs.NumberLaws.{RefusalIsFirst, RefusalIsNone}
use Rattle.mq_core.specs.PlanLaws.{NodesAreInLimits, OrdersRank, RowsTellDemands}
use Rattle.mq_core.specs.RunLaws.{OutputsHaveStreams, SequencesMakeRuns, StreamsMakeOutputs}
use Rattle.mq_join.specs.Gathers.{GatheredCame}
use Rattle.mq_stats.specs.RunNumbers.{RunsGiveStreams}

pub record CoreLaws : Type 0 where
  pub limits : NodesAreInLimits
  pub ranks : OrdersRank
  pub demands : RowsTellDemands
  pub arrivals : ArrivalsAreStreams
  pub jobs : JobsAreRows
  pub sequences : NodesAreSequences
  pub blind : SequencesAreBlind
  pub streams : StreamsRise
  pub have : OutputsHaveStreams
  pub make : StreamsMakeOutputs
  pub runs : SequencesMakeRuns
  pub first : RefusalIsFirst
  pub none : RefusalIsNone
  pub gathered : GatheredCame
  pub leave : RunsGiveStreams
