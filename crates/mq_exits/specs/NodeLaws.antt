-- The laws of runs that the result of a node rests on, each proved in the core.
use Rattle.mq_core.specs.SequenceLaws.{NodesAreSequences, OrdersKeepItems, SequencesAreBlind, SequencesGoByFates, StreamsRise}
use Rattle.mq_core.specs.RunLaws.{OutputsHaveStreams, StreamsMakeOutputs}

pub record NodeLaws : Type 0 where
  pub keeps : OrdersKeepItems
  pub sequences : NodesAreSequences
  pub blind : SequencesAreBlind
  pub go : SequencesGoByFates
  pub streams : StreamsRise
  pub have : OutputsHaveStreams
  pub make : StreamsMakeOutputs
