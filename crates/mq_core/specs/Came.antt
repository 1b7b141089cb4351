-- The arrivals at a node, as sequences.
use Rattle.std.specs.Prelude.{ℕ, List, [], map}
use Rattle.mq_core.specs.Machine.{Visit}
use Rattle.mq_core.specs.declared.model.Stream.{Stream}

-- the number of ports, and for each arrival its port, its job and its time
pub record Came : Type 0 where
  pub ports : ℕ
  pub port : List ℕ
  pub job : List ℕ
  pub arrive : List ℕ

-- the arrivals of these visits, at this many ports
abbrev pub came_of : ℕ → List Visit → Came
came_of ports visits = record { ports = ports; port = map (λ (x : Visit). x.port) visits; job = map (λ (x : Visit). x.job) visits; arrive = map (λ (x : Visit). x.arrive) visits }

-- arrivals without their ports
abbrev pub came_by : List ℕ → List ℕ → Came
came_by job arrive = record { ports = 0; port = []; job = job; arrive = arrive }

-- the arrivals that a stream gives, without their ports
abbrev pub came_in : Stream → Came
came_in stream = came_by stream.job stream.time
