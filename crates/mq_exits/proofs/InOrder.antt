-- Jobs that leave a station in the order in which they came.
use Rattle.std.proofs.Common.{◌≡◌, ℕ, zero, suc, ◌<◌, ◌≤◌, List, [], ◌∷◌, length, Some, sym, ap, ◌∙◌, subst, arith}
use Rattle.std.specs.Prelude.{slice_get}
use Rattle.mq_core.specs.Came.{came_in}
use Rattle.mq_core.specs.Laws.{Rises}
use Rattle.mq_core.specs.SequenceLaws.{FatesAreInTime, SequencesGoByFates}
use Rattle.mq_core.specs.Sequences.{sequence_stream, stream_in_order}
use Rattle.mq_core.specs.declared.model.Kind.{Kind}
use Rattle.mq_core.specs.declared.model.Rows.{Rows}
use Rattle.mq_core.specs.declared.model.Stream.{Stream}
use Rattle.mq_stations.specs.Leaving.{AreStreams, IsLoad}
use Rattle.mq_stations.proofs.lemmas.Leaves.{departs-one}
use Rattle.mq_kinds.specs.Lefts.{LeaveInTurn}

-- what leaves is what the sequences say
in-turn-sequence : SequencesGoByFates → FatesAreInTime → (rows : Rows) (kind : Kind) (arrivals : Stream) (departs : List ℕ) → length arrivals.job ≡ length arrivals.time → LeaveInTurn rows kind arrivals departs → record { job = arrivals.job; time = departs } ≡ sequence_stream rows kind (came_in arrivals) 0
in-turn-sequence fated law rows kind arrivals departs even t =
    sym ((fated rows kind (came_in arrivals) t.0.once).stream 0 ∙ (ap (stream_in_order kind) (sym (departs-one law rows kind arrivals departs even t.0)) ∙ t.1))

pub in-turn-streams : SequencesGoByFates → FatesAreInTime → (rows : Rows) (kind : Kind) (arrivals : Stream) (departs : List ℕ) → length arrivals.job ≡ length arrivals.time → LeaveInTurn rows kind arrivals departs → AreStreams rows kind arrivals (record { job = arrivals.job; time = departs } ∷ [])
in-turn-streams fated law rows kind arrivals departs even t =
    record {
      count = sym t.0.one;
      each = λ out l. only out (subst (λ n. out < n) t.0.one l);
    }
  where
    only : (out : ℕ) → out < 1 → slice_get (record { job = arrivals.job; time = departs } ∷ []) out ≡ Some (sequence_stream rows kind (came_in arrivals) out)
    only zero l = ap Some (in-turn-sequence fated law rows kind arrivals departs even t)
    only (suc out) l = absurd (omega arith)

-- so their departures never fall
pub in-turn-rises : SequencesGoByFates → FatesAreInTime → (rows : Rows) (kind : Kind) (arrivals : Stream) (departs : List ℕ) → IsLoad rows kind arrivals → LeaveInTurn rows kind arrivals departs → Rises (λ a b. a ≤ b) departs
in-turn-rises fated law rows kind arrivals departs load t =
    subst (λ (stream : Stream). Rises (λ a b. a ≤ b) stream.time) (sym (in-turn-sequence fated law rows kind arrivals departs load.ordered.ordered.even t)) (load.leaves 0).rising
