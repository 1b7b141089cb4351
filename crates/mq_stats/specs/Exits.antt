-- What leaves by an output, from parts of its stream.
use Rattle.std.specs.Prelude.{◌≡◌, ◌+◌, ◌*◌, ◌^◌, ◌≤◌, ℕ, length}
use Rattle.mq_base.specs.Lists.{between}
use Rattle.mq_core.specs.Sequences.{sequence_exit}
use Rattle.mq_core.specs.declared.model.Rows.{Rows}
use Rattle.mq_core.specs.declared.model.Stream.{Stream}
use Rattle.mq_stats.specs.Numbers.{AreLeaving}
use Rattle.mq_stats.specs.declared.exits.Exit.{Exit}

-- the jobs of a stream from a position up to another
abbrev pub stream_between : ℕ → ℕ → Stream → Stream
stream_between from to stream = record { job = between from to stream.job; time = between from to stream.time }

-- the exit has the jobs and the sum of this stream, and the sum is at most 2^64 ticks per job
pub record IsExitOf (rows : Rows) (stream : Stream) (exit : Exit) : Type 0 where
  pub told : (exit.count, exit.sojourn) ≡ sequence_exit rows stream
  pub small : exit.sojourn ≤ exit.count * 2 ^ 64

-- The exits of neighbouring parts of a stream add up to the exit of both parts, and the part from the first job to the last is the whole stream.
pub record ExitsJoin : Type 0 where
  pub join : (rows : Rows) (stream : Stream) → AreLeaving rows stream → (from middle to : ℕ) → from ≤ middle → middle ≤ to → to ≤ length stream.job →
      (before after both : Exit) → IsExitOf rows (stream_between from middle stream) before → IsExitOf rows (stream_between middle to stream) after → both.count ≡ before.count + after.count → both.sojourn ≡ before.sojourn + after.sojourn → IsExitOf rows (stream_between from to stream) both
  pub whole : (rows : Rows) (stream : Stream) → AreLeaving rows stream → stream_between 0 (length stream.job) stream ≡ stream
