-- What the sequences of the kinds owe to their arrivals, one row a kind.
use Rattle.std.proofs.Common.{ap, refl, subst, sym, true, ◌∙◌, ◌≡◌, ◌≤◌}
use Rattle.mq_core.specs.Came.{came_by}
use Rattle.mq_core.specs.KindTable.{behaviour_of}
use Rattle.mq_core.specs.OnceOut.{founds_of, leaving_times, once_out}
use Rattle.mq_core.specs.SequenceLaws.{FatesAreInTime, SequencesAreBlind, SequencesGoByFates, sends_once}
use Rattle.mq_core.specs.Sequences.{sequence_fates, sequence_outs}
use Rattle.mq_core.specs.Streams.{picked}
use Rattle.mq_core.specs.declared.model.Kind.{Kind}
use Rattle.mq_core.specs.declared.model.Kind.TheVariants.{Delay, Fork, ForkJoin, Join, Loss, Server, Source, Split, Tandem, Trunk}
use Rattle.mq_core.specs.declared.model.Rows.{Rows}
use Rattle.mq_core.specs.declared.model.Stream.{Stream}
use Rattle.mq_core.proofs.Bounded.BoundedKinds.{leaving-by}
use Rattle.mq_core.proofs.Bounded.BoundedStations.{AreBy}
use Rattle.mq_core.proofs.EachKind.ArrivalLaws.{ArrivalLaws}
use Rattle.mq_core.proofs.EachKind.LawTable.{recurrence_of}
use Rattle.mq_core.proofs.Fork.ForkArrivals.{fork-arrivals}
use Rattle.mq_core.proofs.Join.JoinArrivals.{join-arrivals}
use Rattle.mq_core.proofs.Sequences.SequenceOrder.{orders-keep_items}
use Rattle.mq_core.proofs.lemmas.Picked.{Each-picked}

-- whoever lets each visit out once keeps them by its recurrence
once_arrives : (rows : Rows) (kind : Kind) → sends_once kind ≡ true → ArrivalLaws rows (behaviour_of kind)
once_arrives rows kind once =
    record {
      bounded = λ came limit top columns sound told room early. (recurrence_of rows came.ports kind once).bounded came limit top columns sound told room early;
      streamed = λ came limit out early late.
          let outs = sequence_outs rows kind came in
          let times = leaving_times came.arrive (sequence_fates rows kind came) in
          subst (λ (s : Stream). AreBy limit s.time) (sym ((recurrence_of rows came.ports kind once).streams came out))
          ((orders-keep_items kind (record { job = picked out outs came.job; time = picked out outs times })).times limit
          (Each-picked (λ time. time ≤ limit) out outs times (leaving-by limit came.arrive (sequence_fates rows kind came) early late)));
      in_time = λ leave came even. (recurrence_of rows came.ports kind once).in_time came even;
      blind = λ leave came.
          let laws = recurrence_of rows came.ports kind once in
          let bare = came_by came.job came.arrive in
          let blind = laws.blind came in (
            blind.0,
            laws.finds came ∙ (ap (founds_of came.arrive) blind.0 ∙ sym (laws.finds bare)),
            λ out. laws.streams came out ∙ ((λ i. once_out (behaviour_of kind).order bare (blind.0 i) (blind.1 i) out) ∙ sym (laws.streams bare out)),
          );
    }

pub arrivals_of : (rows : Rows) (kind : Kind) → ArrivalLaws rows (behaviour_of kind)
arrivals_of rows Source = once_arrives rows Source refl
arrivals_of rows (Server demand) = once_arrives rows (Server demand) refl
arrivals_of rows (Delay demand) = once_arrives rows (Delay demand) refl
arrivals_of rows (Loss places demand) = once_arrives rows (Loss places demand) refl
arrivals_of rows (Tandem stages) = once_arrives rows (Tandem stages) refl
arrivals_of rows (ForkJoin branches) = once_arrives rows (ForkJoin branches) refl
arrivals_of rows (Split route) = once_arrives rows (Split route) refl
arrivals_of rows (Fork outputs) = fork-arrivals rows outputs
arrivals_of rows Join = join-arrivals rows
arrivals_of rows (Trunk servers demand) = once_arrives rows (Trunk servers demand) refl

pub sequences-go-by_fates : SequencesGoByFates
sequences-go-by_fates rows kind came once = record { founds = (recurrence_of rows came.ports kind once).finds came; stream = (recurrence_of rows came.ports kind once).streams came }

pub sequences-are-blind : SequencesAreBlind
sequences-are-blind rows kind came leave =
    let blind = (arrivals_of rows kind).blind leave came in
    record { visits = λ i. record { job = came.job; arrive = came.arrive; found = blind.1 i; fate = blind.0 i }; stream = blind.2 }

pub fates-in_time : FatesAreInTime
fates-in_time rows kind came leave even = (arrivals_of rows kind).in_time leave came even
