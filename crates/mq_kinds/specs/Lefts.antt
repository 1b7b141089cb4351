-- What leaves a station.
use Rattle.std.specs.Prelude.{◌≡◌, ℕ, List, map}
use Rattle.std.specs.List.{zip}
use Rattle.mq_core.specs.Came.{came_in}
use Rattle.mq_core.specs.Laws.{in_order_of}
use Rattle.mq_core.specs.Sequences.{IsStream, sequence_fates, stream_in_order}
use Rattle.mq_core.specs.Streams.{by_first, pairs_of, sorted}
use Rattle.mq_core.specs.declared.model.Fate.TheVariants.{Departs}
use Rattle.mq_core.specs.declared.model.Kind.{Kind}
use Rattle.mq_core.specs.declared.model.Rows.{Rows}
use Rattle.mq_core.specs.declared.model.Stream.{Stream}
use Rattle.mq_stations.specs.Leaving.{AreDepartures, AreSettled, AreStreams}
use Rattle.mq_kinds.specs.declared.pieces.Left.{Left}
use Rattle.mq_kinds.specs.declared.pieces.Left.TheVariants.{InTurn, Overtaking, Passing, Settled}

-- all jobs depart at these times, by position, and leave in the order in which they came
abbrev pub LeaveInTurn : Rows → Kind → Stream → List ℕ → Type 0
LeaveInTurn rows kind arrivals departs =
    let leaving : Stream = record { job = arrivals.job; time = departs } in
    AreDepartures rows kind arrivals departs × (stream_in_order kind leaving ≡ leaving)

-- all jobs depart at these times, by position, and leave by time, in this stream
pub record LeaveByTime (rows : Rows) (kind : Kind) (arrivals : Stream) (departs : List ℕ) (leaving : Stream) : Type 0 where
  pub depart : AreDepartures rows kind arrivals departs
  pub overtake : (stream : Stream) → stream_in_order kind stream ≡ sorted stream
  pub ordered : IsStream leaving
  pub items : pairs_of leaving ≡ by_first (zip departs arrivals.job)
  pub times : leaving.time ≡ in_order_of (λ time. time) departs

-- all jobs depart when they come, and these streams leave
pub record PassThrough (rows : Rows) (kind : Kind) (arrivals : Stream) (streams : List Stream) : Type 0 where
  pub fates : sequence_fates rows kind (came_in arrivals) ≡ map (λ time. Departs time) arrivals.time
  pub streams_are : AreStreams rows kind arrivals streams

-- what leaves a station of this kind
abbrev pub IsLeft : Rows → Kind → Stream → Left → Type 0
IsLeft rows kind arrivals (InTurn departs) = LeaveInTurn rows kind arrivals departs
IsLeft rows kind arrivals (Overtaking departs leaving) = LeaveByTime rows kind arrivals departs leaving
IsLeft rows kind arrivals (Settled settled) = AreSettled rows kind arrivals settled
IsLeft rows kind arrivals (Passing streams) = PassThrough rows kind arrivals streams
