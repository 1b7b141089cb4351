-- What a kind of node is: all that the other definitions need to know of a kind. To add a kind, give one such value, in a file of
-- `Kinds`, with a lemma that it schedules nothing early, and add their rows to `KindTable` and `OnTime`. The records of laws in
-- `proofs/EachKind` list what must be proved of it; its row goes into `LawTable`.
use Rattle.mq_core.specs.Came.{Came}
use Rattle.std.specs.Prelude.{Bool, List, Option, ℕ}
use Rattle.mq_core.specs.Event.{Event}
use Rattle.mq_core.specs.EmissionOrder.{EmissionOrder}
use Rattle.mq_core.specs.Local.{Local}
use Rattle.mq_core.specs.Machine.{Emission, Reaction, Station, Visit}
use Rattle.mq_core.specs.declared.model.Fate.{Fate}
use Rattle.mq_core.specs.declared.model.Rows.{Rows}
use Rattle.mq_core.specs.declared.model.Stream.{Stream}

-- one value per kind: everything that depends on the kind is one of its fields
pub record Behaviour : Type 1 where
  -- What the event list, its tallies and the model's limits read.
  -- jobs start here: rows name the node
  pub starts : Bool
  -- what a node keeps at the start
  pub opening : Local
  -- what it keeps after an event, lets out and schedules, at a node with this many ports
  pub on : Rows → ℕ → List Visit → Local → ℕ → Event → Reaction Local
  -- the number of jobs in it
  pub jobs : List Visit → Local → ℕ
  -- the number of its working servers
  pub working : Local → ℕ
  -- jobs stay in it; otherwise each goes on when it comes
  pub holds : Bool
  -- the number of its servers, by which its utilisation is computed
  pub servers : ℕ
  -- the number of its outputs
  pub outputs : ℕ
  -- whether it may have this many ports
  pub ports : ℕ → Bool
  -- the version of the model language from which it may be used
  pub version : ℕ
  -- whether its numbers are in their ranges, in a model with this many columns
  pub sound : ℕ → Bool
  -- the columns that it mentions, in order
  pub mentioned : List ℕ
  -- how long a job stays if it never waits
  pub bare : Rows → ℕ → ℕ
  -- the emission with which the visit at a position leaves, once it has left
  pub exit : Station Local → ℕ → Option Emission
  -- what an emission says of its visit
  pub fate : Emission → Fate
  -- What its recurrence says. The event list doesn't read this; laws connect the two.
  -- the rows give all that it needs for a job, each demand in its limit
  pub asked : Rows → ℕ → Type 0
  -- the sum of the services that a job needs
  pub service : Rows → ℕ → ℕ
  -- the fates of these arrivals
  pub fates : Rows → Came → List Fate
  -- the outputs by which they leave; none at a fork or a join
  pub outs : Rows → Came → List ℕ
  -- what these visits let out, by position, at a node with this many ports
  pub flow : Rows → ℕ → List Visit → List Emission
  -- the order in which it lets jobs out
  pub order : EmissionOrder
  -- the most jobs that one event may let out
  pub copies : ℕ
  -- whether a visit that leaves with an emission is still there for a visit that comes at this time, at this position
  pub there : ℕ → ℕ → Emission → Bool
  -- visits may stay for good
  pub keeps : Bool
  -- each visit leaves once, alone, so that its sequences follow from its fate and its output
  pub once : Bool
  -- what each arrival finds
  pub founds : Rows → Came → List ℕ
  -- what leaves by an output
  pub stream : Rows → Came → ℕ → Stream
