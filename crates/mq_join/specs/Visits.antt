-- The result of a join.
use Rattle.std.specs.Prelude.{◌≡◌}
use Rattle.mq_core.specs.Came.{Came}
use Rattle.mq_core.specs.Sequences.{sequence_stream, sequence_visits}
use Rattle.mq_core.specs.declared.model.Kind.TheVariants.{Join}
use Rattle.mq_core.specs.declared.model.Rows.{Rows}
use Rattle.mq_join.specs.declared.visits.Joined.{Joined}

-- the sequences of a join to which this came, whatever the rows
pub record AreJoined (came : Came) (joined : Joined) : Type 0 where
  pub visits : (rows : Rows) → joined.visits ≡ sequence_visits rows Join came
  pub leaving : (rows : Rows) → joined.leaving ≡ sequence_stream rows Join came 0
