-- What sources let out, and what is told of them.
use Rattle.std.proofs.Common.{◌≡◌, ℕ, zero, suc, ◌-◌, Bool, true, false, cond, List, [], ◌∷◌, length, map, fold, max, min, sum, count_by, Some, None, refl, sym, ap, ◌∙◌, subst, arith}
use Rattle.std.specs.Prelude.{slice_get}
use Rattle.std.specs.List.{filter}
use Rattle.mq_core.specs.Came.{came_in}
use Rattle.mq_core.specs.Results.{first_of, is_departed, is_held, is_lost}
use Rattle.mq_core.specs.SequenceLaws.{FatesAreInTime, OrdersKeepItems, SequencesGoByFates}
use Rattle.mq_core.specs.Sequences.{sequence_exit, sequence_late_from, sequence_services, sequence_sojourns, sequence_totals, sequence_visits, sequence_waits}
use Rattle.mq_core.specs.Theorems.{IsReadFor}
use Rattle.mq_core.specs.Wiring.{is_source_kind}
use Rattle.mq_core.specs.declared.model.Fate.{Fate}
use Rattle.mq_core.specs.declared.model.Fate.TheVariants.{Departs}
use Rattle.mq_core.specs.declared.model.Kind.{Kind}
use Rattle.mq_core.specs.declared.model.Kind.TheVariants.{Source, Server, Delay, Loss, Tandem, ForkJoin, Split, Fork, Join, Trunk}
use Rattle.mq_core.specs.declared.model.Node.{Node}
use Rattle.mq_core.specs.declared.model.Plan.{Plan}
use Rattle.mq_core.specs.declared.model.Rows.{Rows}
use Rattle.mq_core.specs.declared.model.Stream.{Stream}
use Rattle.mq_core.specs.declared.model.Visits.{Visits}
use Rattle.mq_counts.specs.Counts.{AreExits, IsCountOf, is_read}
use Rattle.mq_counts.specs.declared.counts.NodeCount.{NodeCount}
use Rattle.mq_exits.specs.Loads.{IsLoaded}
use Rattle.mq_exits.specs.NodeLaws.{NodeLaws}
use Rattle.mq_exits.specs.Results.{IsEnding, IsKnown, IsResult}
use Rattle.mq_exits.specs.declared.working.Ending.TheVariants.{OnTime, TooLate}
use Rattle.mq_exits.proofs.Known.{known}
use Rattle.mq_exits.proofs.Leavings.{kept-streams}
use Rattle.mq_stations.specs.Late.{late_told}
use Rattle.mq_stations.specs.Leaving.{AreServed, IsEarlyStream}
use Rattle.mq_core.specs.declared.refusals.PastFault.{PastFault}
use Rattle.mq_stations.proofs.lemmas.Leaves.{departs-left}
use Rattle.mq_base.proofs.lemmas.Lists.{some_inj}
use Rattle.mq_stats.specs.declared.exits.Exit.{Exit}
use Rattle.mq_stats.proofs.Counts.{count-cons}
use Rattle.mq_stats.specs.Percentiles.{departed_waits, hundredths, least_of, percentile, reaches, waits_at}
use Rattle.mq_engine.specs.CoreLaws.{CoreLaws}
use Rattle.mq_engine.specs.Counting.{IsToldAt}
use Rattle.mq_engine.specs.Sources.{sent_totals}
use Rattle.mq_engine.specs.declared.told.ToldEnding.TheVariants.{Told, TooLate as LateTold}

-- the fates of jobs that depart at these times
abbrev pub departing : List ℕ → List Fate
departing times = map (λ time. Departs time) times

-- they depart
all-departed : (times : List ℕ) → count_by is_departed (departing times) ≡ length times
all-departed [] = refl
all-departed (t ∷ ts) =
    let more = count-cons is_departed (Departs t) (departing ts) in
    let all = all-departed ts in
    omega arith

none-lost : (times : List ℕ) → count_by is_lost (departing times) ≡ 0
none-lost [] = refl
none-lost (t ∷ ts) = none-lost ts

none-held : (times : List ℕ) → count_by is_held (departing times) ≡ 0
none-held [] = refl
none-held (t ∷ ts) = none-held ts

-- a list of zeros
abbrev pub zeros : ℕ → List ℕ
zeros zero = []
zeros (suc n) = 0 ∷ zeros n

sum-zeros : (n : ℕ) → sum (zeros n) ≡ 0
sum-zeros zero = refl
sum-zeros (suc n) = sum-zeros n

most-zeros : (n : ℕ) → fold max 0 (zeros n) ≡ 0
most-zeros zero = refl
most-zeros (suc n) = most-zeros n

-- none waits, none stays, and none is served
no-waits : (rows : Rows) (jobs times : List ℕ) → length jobs ≡ length times → sequence_waits rows Source jobs times (departing times) ≡ zeros (length times)
no-waits rows [] [] e = refl
no-waits rows [] (t ∷ ts) e = absurd (omega arith)
no-waits rows (j ∷ js) [] e = absurd (omega arith)
no-waits rows (j ∷ js) (t ∷ ts) e =
    let none : t - t - 0 ≡ 0 = omega arith in
    (λ i. none i ∷ no-waits rows js ts (let f : length js ≡ length ts = omega arith in f) i)

no-sojourns : (span : ℕ) (times : List ℕ) → sequence_sojourns span times (departing times) ≡ zeros (length times)
no-sojourns span [] = refl
no-sojourns span (t ∷ ts) =
    let none : t - t ≡ 0 = omega arith in
    (λ i. none i ∷ no-sojourns span ts i)

no-services : (rows : Rows) (jobs times : List ℕ) → length jobs ≡ length times → sequence_services rows Source jobs (departing times) ≡ zeros (length times)
no-services rows [] [] e = refl
no-services rows [] (t ∷ ts) e = absurd (omega arith)
no-services rows (j ∷ js) [] e = absurd (omega arith)
no-services rows (j ∷ js) (t ∷ ts) e = ap (λ l. 0 ∷ l) (no-services rows js ts (let f : length js ≡ length ts = omega arith in f))

no-departed : (rows : Rows) (jobs times : List ℕ) → length jobs ≡ length times → departed_waits rows Source jobs times (departing times) ≡ zeros (length times)
no-departed rows [] [] e = refl
no-departed rows [] (t ∷ ts) e = absurd (omega arith)
no-departed rows (j ∷ js) [] e = absurd (omega arith)
no-departed rows (j ∷ js) (t ∷ ts) e =
    let none : t - t - 0 ≡ 0 = omega arith in
    (λ i. none i ∷ no-departed rows js ts (let f : length js ≡ length ts = omega arith in f) i)

-- the totals of a source
pub totals-sent : (rows : Rows) (stream : Stream) (span : ℕ) → length stream.job ≡ length stream.time → sent_totals (length stream.job) ≡ sequence_totals rows Source (sequence_visits rows Source (came_in stream)) span
totals-sent rows stream span even =
    let waits = no-waits rows stream.job stream.time even in
    let n = length stream.time in
    λ i. record {
      came = length stream.job;
      left = (even ∙ sym (all-departed stream.time)) i;
      lost = sym (none-lost stream.time) i;
      held = sym (none-held stream.time) i;
      wait = sym (ap sum waits ∙ sum-zeros n) i;
      longest = sym (ap (fold max 0) waits ∙ most-zeros n) i;
      busy = sym (ap sum (no-services rows stream.job stream.time even) ∙ sum-zeros n) i;
      area = sym (ap sum (no-sojourns span stream.time) ∙ sum-zeros n) i;
      peak = 0;
    }

-- the percentiles of zeros
some-zeros : (test : ℕ → Bool) (n : ℕ) → (m : ℕ) × (filter test (zeros n) ≡ zeros m)
some-zeros test zero = (0, refl)
some-zeros test (suc n) = go (test 0) (some-zeros test n)
  where
    go : (b : Bool) → ((m : ℕ) × (filter test (zeros n) ≡ zeros m)) → (m : ℕ) × (cond b (0 ∷ filter test (zeros n)) (filter test (zeros n)) ≡ zeros m)
    go true before = (suc before.0, ap (λ l. 0 ∷ l) before.1)
    go false before = before

least-zeros : (n : ℕ) → least_of (zeros n) ≡ 0
least-zeros zero = refl
least-zeros (suc n) = go n
  where
    go : (m : ℕ) → fold min 0 (zeros m) ≡ 0
    go zero = refl
    go (suc m) = go m

no-percentile : (p n : ℕ) → percentile p (zeros n) ≡ 0
no-percentile p n =
    let some = some-zeros (reaches (hundredths p (length (zeros n))) (zeros n)) n in
    ap least_of some.1 ∙ least-zeros some.0

pub percentile-sent : (rows : Rows) (stream : Stream) (p : ℕ) → length stream.job ≡ length stream.time → 0 ≡ percentile p (waits_at rows Source (sequence_visits rows Source (came_in stream)))
percentile-sent rows stream p even = sym (ap (percentile p) (no-departed rows stream.job stream.time even) ∙ no-percentile p (length stream.time))

-- what leaves by the output of a source
pub one-exit : (nodes : List Node) (rows : Rows) (v : ℕ) (stream : Stream) (exit : Exit) → (is_read nodes v 0 ≡ false → (exit.count, exit.sojourn) ≡ sequence_exit rows stream) → AreExits nodes rows v (stream ∷ []) (exit ∷ [])
one-exit nodes rows v stream exit is = record { len = refl; each = go }
  where
    go : (out : ℕ) (one : Stream) (other : Exit) → slice_get (stream ∷ []) out ≡ Some one → slice_get (exit ∷ []) out ≡ Some other → is_read nodes v out ≡ false → (other.count, other.sojourn) ≡ sequence_exit rows one
    go zero one other there here unread =
        subst (λ (p : Stream × Exit). (p.1.count, p.1.sojourn) ≡ sequence_exit rows p.0) (λ i. (some_inj stream one there i, some_inj exit other here i)) (is unread)
    go (suc out) one other there here unread = absurd cc

-- the greater of a number and itself
pub max-same : (n : ℕ) → max n n ≡ n
max-same n = grind arith

-- the jobs of a source depart as they come
served : (rows : Rows) (stream : Stream) → AreServed rows Source stream stream.time
served rows stream = (record { once = refl; one = refl; outs = refl; fates = refl }, λ other. refl)

-- the laws of a node's result
pub node-laws : CoreLaws → OrdersKeepItems → SequencesGoByFates → NodeLaws
node-laws laws keeps go =
    record {
      keeps = keeps;
      sequences = laws.sequences;
      blind = laws.blind;
      go = go;
      streams = laws.streams;
      have = laws.have;
      make = laws.make;
    }

-- a node of that kind is a source
pub source-kind : (kind : Kind) → is_source_kind kind ≡ true → kind ≡ Source
source-kind Source e = refl
source-kind (Server demand) e = absurd cc
source-kind (Delay demand) e = absurd cc
source-kind (Loss places demand) e = absurd cc
source-kind (Tandem stages) e = absurd cc
source-kind (ForkJoin branches) e = absurd cc
source-kind (Split route) e = absurd cc
source-kind (Fork outputs) e = absurd cc
source-kind Join e = absurd cc
source-kind (Trunk servers demand) e = absurd cc

module _ (laws : NodeLaws) (plan : Plan) (rows : Rows) (v : ℕ) (stream : Stream) (read : IsReadFor plan.net rows) (l : IsLoaded plan rows v stream) (source : l.node.kind ≡ Source) where
  abbrev visits : Visits
  visits = sequence_visits rows Source (came_in stream)

  -- a source of which no job comes after the bound
  pub sent-known : FatesAreInTime → first_of (sequence_late_from plan.net.bound v 0 (departing stream.time)) ≡ None → IsKnown plan rows v l.node (OnTime visits (stream ∷ []))
  sent-known law none =
      let left = departs-left law rows Source stream stream.time (stream ∷ []) l.load.ordered.ordered.even (served rows stream).0 refl in
      let result : IsResult rows Source stream visits (stream ∷ []) = record { sequences = refl; outflow = kept-streams laws.go rows Source stream (stream ∷ []) refl (served rows stream).1 left } in
      known laws plan rows v l.node stream (OnTime visits (stream ∷ [])) read l.once l.came l.load l.there
      (subst (λ (kind : Kind). IsEnding plan.net rows v kind stream (OnTime visits (stream ∷ []))) (sym source) (result, none))

  -- what is told of it
  pub sent-told : (form : ℕ) (count : NodeCount) (streams : List Stream) → IsKnown plan rows v l.node (OnTime visits (stream ∷ [])) → streams ≡ stream ∷ [] → IsCountOf plan.net.nodes rows form v Source visits (stream ∷ []) count →
      IsToldAt plan rows form v l.node (Told streams count)
  sent-told form count streams k e is = (
    λ read. e ∙ k.1,
    subst (λ (left : List Stream). (out : ℕ) (one : Stream) → slice_get left out ≡ Some one → IsEarlyStream one) (sym e) k.2,
    k.3,
    subst (λ (p : Kind × Visits × List Stream). IsCountOf plan.net.nodes rows form v p.0 p.1 p.2 count) (λ i. (sym source i, k.0 i, k.1 i)) is,
  )

  -- and one of which one does
  pub sent-missed : (form : ℕ) (fault : PastFault) → first_of (sequence_late_from plan.net.bound v 0 (departing stream.time)) ≡ Some (late_told fault) → IsToldAt plan rows form v l.node (LateTold fault)
  sent-missed form fault late = known laws plan rows v l.node stream (TooLate fault) read l.once l.came l.load l.there (subst (λ (kind : Kind). IsEnding plan.net rows v kind stream (TooLate fault)) (sym source) late)
