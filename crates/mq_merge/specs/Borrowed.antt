-- What came to a node, merged or borrowed from the node that let it out.
use Rattle.mq_core.specs.declared.model.Stream.{Stream}
use Rattle.mq_merge.specs.declared.arrivals.Arrivals.{Arrivals}
use Rattle.mq_merge.specs.declared.arrivals.Arrivals.TheVariants.{Merged, Read}

-- what came to a node, as a stream
abbrev pub stream_in : Arrivals → Stream
stream_in (Merged stream) = stream
stream_in (Read stream) = stream.now
