-- The visits to a node and what leaves it, in the two forms in which they are given.
use Rattle.std.specs.Prelude.{[], ◌∷◌, List}
use Rattle.mq_core.specs.declared.model.Kind.{Kind}
use Rattle.mq_core.specs.declared.model.Rows.{Rows}
use Rattle.mq_core.specs.declared.model.Stream.{Stream}
use Rattle.mq_core.specs.declared.model.Visits.{Visits}
use Rattle.mq_counts.specs.declared.seen.SeenStreams.{SeenStreams}
use Rattle.mq_counts.specs.declared.seen.SeenStreams.TheVariants.{Kept as KeptStreams, InTurn as StreamInTurn}
use Rattle.mq_counts.specs.declared.seen.SeenVisits.{SeenVisits}
use Rattle.mq_counts.specs.declared.seen.SeenVisits.TheVariants.{Kept, InTurn}
use Rattle.mq_stats.specs.InTurn.{KeepTurn, stream_in_turn, visits_in_turn}
use Rattle.mq_stats.specs.Numbers.{AreVisits}

-- the visits that are given
abbrev pub visits_in : SeenVisits → Visits
visits_in (Kept visits) = visits.now
visits_in (InTurn arrivals departs) = visits_in_turn arrivals.now departs.now

-- the streams that are given, by output; only one, if jobs leave in order of arrival
abbrev pub streams_in : SeenStreams → List Stream
streams_in (KeptStreams streams) = streams.now
streams_in (StreamInTurn arrivals departs) = stream_in_turn arrivals.now departs.now ∷ []

-- jobs leave in order of arrival, if the visits are given as arrivals and departures
abbrev pub InOrder : SeenVisits → Type 0
InOrder (Kept visits) = Unit {0}
InOrder (InTurn arrivals departs) = KeepTurn arrivals.now departs.now

-- visits to a node of this kind, with jobs leaving in order of arrival if they are given in that form
pub record AreSeen (rows : Rows) (kind : Kind) (seen : SeenVisits) : Type 0 where
  pub visits : AreVisits rows kind (visits_in seen)
  pub turn : InOrder seen
