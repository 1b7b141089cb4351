-- What leaves a fork.
use Rattle.std.specs.Prelude.{◌≡◌, ◌<◌, ℕ, List, Some, length, slice_get}
use Rattle.mq_core.specs.Came.{Came}
use Rattle.mq_core.specs.Sequences.{sequence_stream}
use Rattle.mq_core.specs.declared.model.Kind.TheVariants.{Fork}
use Rattle.mq_core.specs.declared.model.Rows.{Rows}
use Rattle.mq_core.specs.declared.model.Stream.{Stream}

-- the streams that leave a fork to which this came, by output, whatever the rows
pub record AreForked (came : Came) (outputs : ℕ) (streams : List Stream) : Type 0 where
  pub count : length streams ≡ outputs
  pub each : (rows : Rows) (out : ℕ) → out < outputs → slice_get streams out ≡ Some (sequence_stream rows (Fork outputs) came out)
