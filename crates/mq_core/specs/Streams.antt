-- Definitions for streams: their items, which of them leave by an output, and in which order.
use Rattle.std.specs.List.{zip}
use Rattle.std.specs.Prelude.{List, [], if◌then◌else◌, map, ℕ, ◌==◌, ◌∷◌}
use Rattle.mq_core.specs.Laws.{in_order_of}
use Rattle.mq_core.specs.EmissionOrder.{EmissionOrder}
use Rattle.mq_core.specs.EmissionOrder.EmissionOrder.{ByPosition, Mixed, Overtaking}
use Rattle.mq_core.specs.declared.model.Stream.{Stream}

-- the time and the job of each item
abbrev pub pairs_of : Stream → List (ℕ × ℕ)
pairs_of stream = zip stream.time stream.job

-- the time and the job of each item, with the port by which it comes
abbrev pub by_port : ℕ → Stream → List (ℕ × ℕ × ℕ)
by_port port stream = map {B = ℕ × ℕ × ℕ} (λ (p : ℕ × ℕ). (p.0, port, p.1)) (pairs_of stream)

-- these pairs by time; pairs of one time keep their order
abbrev pub by_first : List (ℕ × ℕ) → List (ℕ × ℕ)
by_first pairs = in_order_of (λ (p : ℕ × ℕ). p.0) pairs

-- the items whose output is this one; the two lists give the output of each item
abbrev pub picked : ℕ → List ℕ → List ℕ → List ℕ
picked out [] items = []
picked out (o ∷ outs) [] = []
picked out (o ∷ outs) (item ∷ items) = if o == out then item ∷ picked out outs items else picked out outs items

-- a stream by time; items of one time keep their order
abbrev pub sorted : Stream → Stream
sorted stream =
    let pairs = by_first (pairs_of stream) in
    record {
      job = map (λ (p : ℕ × ℕ). p.1) pairs;
      time = map (λ (p : ℕ × ℕ). p.0) pairs;
    }

-- jobs and times by position, in the order in which they leave by an output
abbrev pub stream_by : EmissionOrder → Stream → Stream
stream_by ByPosition stream = stream
stream_by Mixed stream = stream
stream_by Overtaking stream = sorted stream
