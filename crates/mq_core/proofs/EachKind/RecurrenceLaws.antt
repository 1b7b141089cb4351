-- What is to be shown of the recurrence of a kind that lets each visit out once: one value a kind, in the kind's folder.
use Rattle.mq_core.specs.Came.{Came, came_by, came_of}
use Rattle.std.proofs.Common.{◌≡◌, ℕ, ◌+◌, ◌*◌, ◌^◌, ◌≤◌, List, Option, map, length, true}
use Rattle.std.specs.List.{AllByRecursion as Each}
use Rattle.mq_core.specs.Behaviour.{Behaviour}
use Rattle.mq_core.specs.SequenceLaws.{FatesInTime, arrives_of}
use Rattle.mq_core.specs.Laws.{Rises, in_order_of, stream_of}
use Rattle.mq_core.specs.EmissionOrder.EmissionOrder.{Mixed}
use Rattle.mq_core.specs.Machine.{Visit, Emission}
use Rattle.mq_core.specs.OnceOut.{founds_of, once_out}
use Rattle.mq_core.specs.Tallies.{one_if_there}
use Rattle.mq_core.specs.declared.model.Rows.{Rows}
use Rattle.mq_core.proofs.Bounded.BoundedStations.{AreBy, LeaveBy}
use Rattle.mq_core.proofs.Counting.SequenceNumbers.{Numbered, EachLeavesBy}
use Rattle.mq_core.proofs.Counting.Stays.{FatesStay}
use Rattle.mq_core.proofs.Events.Later.{one_if_later}

-- The laws of a kind whose sequences are one value a visit.
pub record RecurrenceLaws (rows : Rows) (ports : ℕ) (b : Behaviour) : Type 0 where
  -- the flow has one emission a visit, by position
  pub numbered : (visits : List Visit) → Numbered 0 (b.flow rows ports visits) visits
  -- each visit departs as it is let out, or is lost as it comes
  pub leaves : (visits : List Visit) → EachLeavesBy b.fate (b.flow rows ports visits) visits
  -- the fates of the flow are those of the sequences
  pub fares : (visits : List Visit) → map b.fate (b.flow rows ports visits) ≡ b.fates rows (came_of ports visits)
  -- its outputs are those of the sequences
  pub goes : (visits : List Visit) → map (λ (m : Emission). m.out) (b.flow rows ports visits) ≡ b.outs rows (came_of ports visits)
  -- where only outputs mix, each output leaves by position
  pub stands : b.order ≡ Mixed → (visits : List Visit) → Rises (λ a b. a ≤ b) (arrives_of visits) → (out : ℕ) → in_order_of (λ (m : Emission). m.time) (stream_of out (b.flow rows ports visits)) ≡ stream_of out (b.flow rows ports visits)
  -- no job departs before it came
  pub in_time : (came : Came) → length came.job ≡ length came.arrive → FatesInTime came.arrive (b.fates rows came)
  -- none departs earlier than after its bare time
  pub stays : (came : Came) → length came.job ≡ length came.arrive → FatesStay (b.bare rows) came.job came.arrive (b.fates rows came)
  -- each job adds at most the demands of 8 servers
  pub bounded : (came : Came) (limit top columns : ℕ) → b.sound columns ≡ true → Each (λ job. b.asked rows job) came.job → top + length came.arrive * 2 ^ 39 ≤ limit → AreBy top came.arrive → LeaveBy limit (b.fates rows came)
  -- by which ports jobs came changes nothing
  pub blind : (came : Came) → (b.fates rows came ≡ b.fates rows (came_by came.job came.arrive)) × (b.outs rows came ≡ b.outs rows (came_by came.job came.arrive))
  -- who leaves later than one comes is there for it
  pub until : (time position : ℕ) (o : Option Emission) → one_if_there b.there time position o ≡ one_if_later time o
  -- what is found goes by the fates
  pub finds : (came : Came) → b.founds rows came ≡ founds_of came.arrive (b.fates rows came)
  -- what leaves by an output goes by the outputs
  pub streams : (came : Came) (out : ℕ) → b.stream rows came out ≡ once_out b.order came (b.fates rows came) (b.outs rows came) out
