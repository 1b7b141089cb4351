-- The orders in which a node may let jobs out.
use Rattle.std.specs.Prelude.{List}
use Rattle.mq_core.specs.Laws.{in_order_of}
use Rattle.mq_core.specs.Machine.{Emission}

pub data EmissionOrder : Type 0 where
  -- by position
  ByPosition : EmissionOrder
  -- by time over all outputs, and by position on each output
  Mixed : EmissionOrder
  -- by time, and by position at one time, also on each output
  Overtaking : EmissionOrder

-- these emissions, given by position, in the order in which they leave; over all outputs `Mixed` and `Overtaking` are the same, and
-- `stream_by` distinguishes them
abbrev pub left_by : EmissionOrder → List Emission → List Emission
left_by ByPosition emissions = emissions
left_by Mixed emissions = in_order_of (λ (m : Emission). m.time) emissions
left_by Overtaking emissions = in_order_of (λ (m : Emission). m.time) emissions
