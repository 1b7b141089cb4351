-- What comes to a join by its ports, and what one more port adds.
use Rattle.std.specs.List.{zip}
use Rattle.std.specs.Prelude.{◌≡◌, ℕ, ◌+◌, ◌++◌, List, length, map}
use Rattle.mq_core.specs.Alone.{came}
use Rattle.mq_core.specs.Came.{Came, came_of}
use Rattle.mq_core.specs.Laws.{in_order_of}
use Rattle.mq_core.specs.Machine.{Visit}
use Rattle.mq_core.specs.Streams.{by_port}
use Rattle.mq_core.specs.declared.model.Stream.{Stream}
use Rattle.mq_join.specs.declared.gathered.Gathered.{Gathered}

-- the time, the port and the job of each item
abbrev pub arrivals_of : Gathered → List (ℕ × ℕ × ℕ)
arrivals_of gathered = map {B = ℕ × ℕ × ℕ} (λ (p : ℕ × (ℕ × ℕ)). (p.0, p.1.0, p.1.1)) (zip gathered.stream.time (zip gathered.port gathered.stream.job))

-- the arrivals at a join to which this comes
abbrev pub came_to : Gathered → Came
came_to gathered = record { ports = gathered.ports; port = gathered.port; job = gathered.stream.job; arrive = gathered.stream.time }

-- one port was added, the last, by which this stream comes: all items are in order of time, for equal times in the order of
-- their ports, and those of one port in their order
pub record AddsPort (old new : Gathered) (stream : Stream) : Type 0 where
  pub ports : new.ports ≡ old.ports + 1
  pub many : length new.port ≡ length old.port + length stream.time
  pub arrivals : arrivals_of new ≡ in_order_of (λ (p : ℕ × ℕ × ℕ). p.0) (arrivals_of old ++ by_port old.ports stream)

-- if the gathered items are the arrivals of visits, they are what came to the node of these visits
abbrev pub GatheredCame : Type 0
GatheredCame = (gathered : Gathered) (visits : List Visit) → arrivals_of gathered ≡ came visits → came_to gathered ≡ came_of gathered.ports visits
