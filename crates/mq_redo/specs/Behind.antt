-- The last jobs that come to a node.
use Rattle.std.specs.Prelude.{ℕ, drop}
use Rattle.mq_core.specs.declared.model.Stream.{Stream}
use Rattle.mq_redo.specs.declared.behind.Last.{Last}
use Rattle.mq_redo.specs.declared.behind.Last.TheVariants.{All, Copied}

-- the items of a stream from an index on
abbrev pub stream_behind : ℕ → Stream → Stream
stream_behind from stream = record { job = drop from stream.job; time = drop from stream.time }

-- these jobs, as a stream
abbrev pub stream_in : Last → Stream
stream_in (All stream) = stream.now
stream_in (Copied stream) = stream
