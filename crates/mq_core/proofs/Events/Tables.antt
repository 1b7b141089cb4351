-- What handlers and their wiring promise, so that a run goes forward and each node can be told alone.
use Rattle.std.specs.Prelude.{◌≡◌, ℕ, ◌<◌, ◌≤◌, List, IfSome, Some, slice_get}
use Rattle.std.specs.List.{AllByRecursion}
use Rattle.mq_core.specs.Event.{Event}
use Rattle.mq_core.specs.Machine.{Service, Table, Visit}

-- no finish is scheduled earlier than the clock
abbrev pub IsPunctual : {L : Type 0} → Table L → Type 0
IsPunctual {L} t =
    (n : ℕ) (visits : List Visit) (local : L) (now : ℕ) (e : Event) →
    AllByRecursion (λ (s : Service). now ≤ s.time) (t.handle n visits local now e).services

-- who reads an output has a higher rank
abbrev pub IsFeedForward : {L : Type 0} → Table L → Type 0
IsFeedForward t = (n out : ℕ) → IfSome (t.reader n out) (λ to. t.rank n < t.rank to.0)

-- what the ports read, and who reads an output, say the same
pub record IsWired {L : Type 0} (t : Table L) (inputs : ℕ → List (ℕ × ℕ)) : Type 0 where
  pub reads : (n out v port : ℕ) → t.reader n out ≡ Some (v, port) → slice_get (inputs v) port ≡ Some (n, out)
  pub read : (n out v port : ℕ) → slice_get (inputs v) port ≡ Some (n, out) → t.reader n out ≡ Some (v, port)
