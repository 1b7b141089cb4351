-- What comes to a station and what leaves it, in sequences alone.
use Rattle.std.specs.Prelude.{◌≡◌, ◌<◌, ◌≤◌, ◌^◌, ◌⊎◌, ℕ, IsTrue, List, length, map, Some, slice_get, true}
use Rattle.std.specs.List.{AllByRecursion}
use Rattle.mq_core.specs.Fates.{departure_times}
use Rattle.mq_core.specs.Asked.{HasDemands}
use Rattle.mq_core.specs.Came.{came_in}
use Rattle.mq_core.specs.Kinds.Split.{HasRouteValue}
use Rattle.mq_core.specs.SequenceLaws.{sends_once}
use Rattle.mq_core.specs.Sequences.{IsStream, sequence_fates, sequence_outs, sequence_stream, stream_in_order}
use Rattle.mq_core.specs.OnceOut.{leaving_times}
use Rattle.mq_core.specs.Streams.{picked}
use Rattle.mq_core.specs.Sound.{is_sound_kind, outputs_in}
use Rattle.mq_core.specs.declared.model.Demand.{Demand}
use Rattle.mq_core.specs.declared.model.Fate.{Fate}
use Rattle.mq_core.specs.declared.model.Fate.TheVariants.{Departs}
use Rattle.mq_core.specs.declared.model.Kind.{Kind}
use Rattle.mq_core.specs.declared.model.Kind.TheVariants.{Loss, Trunk}
use Rattle.mq_core.specs.declared.model.Route.{Route}
use Rattle.mq_core.specs.declared.model.Rows.{Rows}
use Rattle.mq_core.specs.declared.model.Stream.{Stream}
use Rattle.mq_rounds.specs.Rounds.{admits, fates_by}
use Rattle.mq_rounds.specs.declared.settled.Settled.{Settled}

-- a stream whose times are at most 2^60
pub record IsEarlyStream (stream : Stream) : Type 0 where
  pub ordered : IsStream stream
  pub early : AllByRecursion (λ time. time ≤ 2 ^ 60) stream.time

-- the rows tell what each of these jobs asks for at a node of this kind, each demand in its limit
abbrev pub HaveDemands : Rows → Kind → List ℕ → Type 0
HaveDemands rows kind jobs = (k job : ℕ) → slice_get jobs k ≡ Some job → HasDemands rows kind job

-- the rows have the value of each of these jobs that a route looks at
abbrev pub AreRouted : Rows → Route → List ℕ → Type 0
AreRouted rows route jobs = (k job : ℕ) → slice_get jobs k ≡ Some job → HasRouteValue rows route job

-- arrivals that a node of this kind can work on: in order, few and early; its numbers are in their ranges, in a model of so many
-- columns, and the rows tell what each job asks for; and what leaves by each output is in order
pub record IsLoad (rows : Rows) (kind : Kind) (arrivals : Stream) : Type 0 where
  pub columns : ℕ
  pub sound : IsTrue (is_sound_kind columns kind)
  pub ordered : IsEarlyStream arrivals
  pub few : length arrivals.time ≤ 1048576
  pub told : HaveDemands rows kind arrivals.job
  pub leaves : (out : ℕ) → IsStream (sequence_stream rows kind (came_in arrivals) out)

-- what leaves by an output, by position: at a delay and a trunk group it is not in emission order yet
abbrev pub left_by : Rows → Kind → Stream → ℕ → Stream
left_by rows kind arrivals out =
    let outs = sequence_outs rows kind (came_in arrivals) in
    record {
      job = picked out outs arrivals.job;
      time = picked out outs (leaving_times arrivals.time (sequence_fates rows kind (came_in arrivals)));
    }

-- what leaves by each output, in emission order
pub record AreStreams (rows : Rows) (kind : Kind) (arrivals : Stream) (streams : List Stream) : Type 0 where
  pub count : length streams ≡ outputs_in kind
  pub each : (out : ℕ) → out < outputs_in kind → slice_get streams out ≡ Some (sequence_stream rows kind (came_in arrivals) out)

-- the same by position
pub record AreLeft (rows : Rows) (kind : Kind) (arrivals : Stream) (streams : List Stream) : Type 0 where
  pub count : length streams ≡ outputs_in kind
  pub each : (out : ℕ) → out < outputs_in kind → slice_get streams out ≡ Some (left_by rows kind arrivals out)

-- what leaves a station: the fate of each arrival, and what leaves by each output
pub record IsLeaving (rows : Rows) (kind : Kind) (arrivals : Stream) (fates : List Fate) (streams : List Stream) : Type 0 where
  pub leave : fates ≡ sequence_fates rows kind (came_in arrivals)
  pub outflow : AreStreams rows kind arrivals streams

-- jobs that leave a node of this kind keep their order
abbrev pub KeepsOrder : Kind → Type 0
KeepsOrder kind = (stream : Stream) → stream_in_order kind stream ≡ stream

-- the jobs of a station of this kind depart at these times, by position, each once by its only output
pub record AreDepartures (rows : Rows) (kind : Kind) (arrivals : Stream) (departs : List ℕ) : Type 0 where
  pub once : sends_once kind ≡ true
  pub one : outputs_in kind ≡ 1
  pub outs : sequence_outs rows kind (came_in arrivals) ≡ map (λ _. 0) arrivals.job
  pub fates : sequence_fates rows kind (came_in arrivals) ≡ map (λ time. Departs time) departs

-- the same, where they keep their order
abbrev pub AreServed : Rows → Kind → Stream → List ℕ → Type 0
AreServed rows kind arrivals departs = AreDepartures rows kind arrivals departs × KeepsOrder kind

-- a station that admits or loses each arrival
abbrev pub MayLose : Kind → Type 0
MayLose kind = ((places : ℕ) × (demand : Demand) × (kind ≡ Loss places demand)) ⊎ ((servers : ℕ) × (demand : Demand) × (kind ≡ Trunk servers demand))

-- which arrivals at such a station are admitted, and when those depart; together they tell the fate of each
pub record AreSettled (rows : Rows) (kind : Kind) (arrivals : Stream) (settled : Settled) : Type 0 where
  pub loses : MayLose kind
  pub admitted : settled.admitted ≡ map admits (sequence_fates rows kind (came_in arrivals))
  pub departs : settled.departs ≡ departure_times (sequence_fates rows kind (came_in arrivals))
  pub fates : fates_by settled.admitted settled.departs ≡ sequence_fates rows kind (came_in arrivals)
