-- What leaves a node, in emission order.
use Rattle.std.proofs.Common.{◌≡◌, ℕ, zero, suc, ◌<◌, true, List, [], ◌∷◌, length, map, Option, Some, sym, ap, ◌∙◌, subst, arith}
use Rattle.std.specs.Prelude.{slice_get}
use Rattle.std.specs.List.{zip}
use Rattle.mq_core.specs.Fates.{departure_times}
use Rattle.mq_core.specs.Came.{came_in}
use Rattle.mq_core.specs.Laws.{in_order_of}
use Rattle.mq_core.specs.Results.{Late, first_of}
use Rattle.mq_core.specs.SequenceLaws.{FatesAreInTime, SequencesGoByFates, sends_once}
use Rattle.mq_core.specs.Sequences.{IsStream, sequence_late_from, sequence_stream, stream_in_order, sequence_visits}
use Rattle.mq_core.specs.OnceOut.{founds_of}
use Rattle.mq_core.specs.Streams.{by_first, pairs_of, sorted}
use Rattle.mq_core.specs.declared.model.Fate.{Fate}
use Rattle.mq_core.specs.declared.model.Fate.TheVariants.{Departs}
use Rattle.mq_core.specs.declared.model.Kind.{Kind}
use Rattle.mq_core.specs.declared.model.Network.{Network}
use Rattle.mq_core.specs.declared.model.Rows.{Rows}
use Rattle.mq_core.specs.declared.model.Stream.{Stream}
use Rattle.mq_core.proofs.lemmas.Orders.{is-sorted}
use Rattle.mq_stats.proofs.AllDepart.{departures-of}
use Rattle.mq_stats.specs.Ahead.{departure_order}
use Rattle.mq_stations.specs.Leaving.{AreDepartures, AreLeft, AreStreams, KeepsOrder, left_by}
use Rattle.mq_stations.proofs.lemmas.Leaves.{departs-one}
use Rattle.mq_exits.specs.Afters.{AreOnTime}
use Rattle.mq_exits.specs.Results.{IsResult}

-- where the jobs keep their order, what leaves by position is what the sequences say
pub kept-streams : SequencesGoByFates → (rows : Rows) (kind : Kind) (arrivals : Stream) (streams : List Stream) → sends_once kind ≡ true → KeepsOrder kind → AreLeft rows kind arrivals streams → AreStreams rows kind arrivals streams
kept-streams law rows kind arrivals streams once keeps left =
    record {
      count = left.count;
      each = λ out l. left.each out l ∙ ap Some (sym ((law rows kind (came_in arrivals) once).stream out ∙ keeps (left_by rows kind arrivals out)));
    }

-- what has been seen of a node is what it gives
pub seen-result : SequencesGoByFates → (net : Network) (rows : Rows) (v : ℕ) (kind : Kind) (arrivals : Stream) (fates : List Fate) (found : List ℕ) (streams : List Stream) → sends_once kind ≡ true → AreOnTime net rows v kind arrivals fates streams → found ≡ founds_of arrivals.time fates →
    IsResult rows kind arrivals (record { job = arrivals.job; arrive = arrivals.time; found = found; fate = fates }) streams
seen-result law net rows v kind arrivals fates found streams once seen f =
    record {
      sequences =
          let founds : found ≡ (sequence_visits rows kind (came_in arrivals)).found = f ∙ (ap (founds_of arrivals.time) seen.fates_are ∙ sym (law rows kind (came_in arrivals) once).founds) in
          λ k. record { job = arrivals.job; arrive = arrivals.time; found = founds k; fate = seen.fates_are k };
      outflow = seen.streams_are;
    }

-- A delay. The jobs by departure are what leaves.
pub sorted-streams : SequencesGoByFates → FatesAreInTime → (rows : Rows) (kind : Kind) (arrivals : Stream) (departs : List ℕ) (leaving : Stream) → length arrivals.job ≡ length arrivals.time → AreDepartures rows kind arrivals departs → ((stream : Stream) → stream_in_order kind stream ≡ sorted stream) →
    IsStream leaving → pairs_of leaving ≡ by_first (zip departs arrivals.job) → AreStreams rows kind arrivals (leaving ∷ [])
sorted-streams fated law rows kind arrivals departs leaving even d order s e =
    record {
      count = sym d.one;
      each = λ out l. only out (subst (λ n. out < n) d.one l);
    }
  where
    left : Stream
    left = record { job = arrivals.job; time = departs }

    stream : leaving ≡ sequence_stream rows kind (came_in arrivals) 0
    stream =
        is-sorted left leaving s e
        ∙ (sym (order left) ∙ (ap (stream_in_order kind) (departs-one law rows kind arrivals departs even d) ∙ sym ((fated rows kind (came_in arrivals) d.once).stream 0)))

    only : (out : ℕ) → out < 1 → slice_get (leaving ∷ []) out ≡ Some (sequence_stream rows kind (came_in arrivals) out)
    only zero l = ap Some stream
    only (suc out) l = absurd (omega arith)

-- where all depart, the departures in order are those times in order
pub departures-order : (times leaving : List ℕ) (fates : List Fate) → fates ≡ map (λ t. Departs t) times → leaving ≡ in_order_of (λ t. t) times → leaving ≡ departure_order fates
departures-order times leaving fates f e = e ∙ ap (in_order_of (λ t. t)) (sym (ap departure_times f ∙ departures-of times))

-- the first late visit of the same fates
pub late-by : (bound v : ℕ) (fates fates' : List Fate) (late : Option Late) → fates ≡ fates' → first_of (sequence_late_from bound v 0 fates') ≡ late → first_of (sequence_late_from bound v 0 fates) ≡ late
late-by bound v fates fates' late e h = ap (λ l. first_of (sequence_late_from bound v 0 l)) e ∙ h
