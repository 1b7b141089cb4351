-- Jobs of a delay that leave in the order in which they came.
use Rattle.std.proofs.Common.{◌≡◌, ◌≤◌, ℕ, List, sym, ◌∙◌}
use Rattle.mq_core.specs.Laws.{Rises}
use Rattle.mq_core.specs.SequenceLaws.{FatesAreInTime}
use Rattle.mq_core.specs.Sequences.{IsStream, stream_in_order}
use Rattle.mq_core.specs.Streams.{sorted}
use Rattle.mq_core.specs.declared.model.Kind.{Kind}
use Rattle.mq_core.specs.declared.model.Rows.{Rows}
use Rattle.mq_core.specs.declared.model.Stream.{Stream}
use Rattle.mq_core.proofs.lemmas.Orders.{is-sorted}
use Rattle.mq_merge.proofs.Merging.{by_first-rises}
use Rattle.mq_stations.specs.Leaving.{AreDepartures, IsLoad}
use Rattle.mq_stations.proofs.lemmas.Leaves.{departs-even}
use Rattle.mq_kinds.specs.Lefts.{LeaveInTurn}

-- if jobs leave by time and their departures never fall, they leave in turn
pub in-turn-risen : FatesAreInTime → (rows : Rows) (kind : Kind) (arrivals : Stream) (departs : List ℕ) → IsLoad rows kind arrivals → AreDepartures rows kind arrivals departs → ((stream : Stream) → stream_in_order kind stream ≡ sorted stream) → Rises (λ a b. a ≤ b) departs → LeaveInTurn rows kind arrivals departs
in-turn-risen law rows kind arrivals departs load d by rises =
    let leaving : Stream = record { job = arrivals.job; time = departs } in
    let ordered : IsStream leaving = record { even = load.ordered.ordered.even ∙ sym (departs-even law rows kind arrivals departs load d); rising = rises } in
    (d, by leaving ∙ sym (is-sorted leaving leaving ordered (sym (by_first-rises departs arrivals.job rises))))
