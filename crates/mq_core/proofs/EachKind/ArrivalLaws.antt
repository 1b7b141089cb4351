-- What is to be shown of the sequences of a kind, as its arrivals give them: one value a kind.
use Rattle.std.proofs.Common.{false, length, true, ℕ, ◌*◌, ◌+◌, ◌^◌, ◌≡◌, ◌≤◌}
use Rattle.std.specs.List.{AllByRecursion as Each}
use Rattle.mq_core.specs.Behaviour.{Behaviour}
use Rattle.mq_core.specs.Came.{Came, came_by}
use Rattle.mq_core.specs.SequenceLaws.{FatesInTime}
use Rattle.mq_core.specs.declared.model.Rows.{Rows}
use Rattle.mq_core.proofs.Bounded.BoundedStations.{AreBy, LeaveBy}

pub record ArrivalLaws (rows : Rows) (b : Behaviour) : Type 0 where
  -- each job adds at most the demands of 8 servers
  pub bounded : (came : Came) (limit top columns : ℕ) → b.sound columns ≡ true → Each (λ job. b.asked rows job) came.job → top + length came.arrive * 2 ^ 39 ≤ limit → AreBy top came.arrive → LeaveBy limit (b.fates rows came)
  -- what leaves by an output leaves no later than its visits came or departed
  pub streamed : (came : Came) (limit out : ℕ) → AreBy limit came.arrive → LeaveBy limit (b.fates rows came) → AreBy limit (b.stream rows came out).time
  -- where visits don't stay for good, no job departs before it came
  pub in_time : b.keeps ≡ false → (came : Came) → length came.job ≡ length came.arrive → FatesInTime came.arrive (b.fates rows came)
  -- and by which ports jobs came changes nothing
  pub blind : b.keeps ≡ false → (came : Came) → (b.fates rows came ≡ b.fates rows (came_by came.job came.arrive)) × (b.founds rows came ≡ b.founds rows (came_by came.job came.arrive)) × ((out : ℕ) → b.stream rows came out ≡ b.stream rows (came_by came.job came.arrive) out)
