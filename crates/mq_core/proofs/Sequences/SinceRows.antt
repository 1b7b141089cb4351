-- That no job comes to a node, or leaves one, before the time of its row.
use Rattle.std.proofs.Common.{◌≡◌, ℕ, zero, suc, ◌+◌, ◌-◌, ◌≤◌, Bool, true, false, eqb, List, [], ◌∷◌, ◌++◌, map, Option, Some, None, sum, sum_by, slice_index, sym, refl, subst, arith}
use Rattle.std.proofs.lemmas.List.Sums.{sum_by-cons}
use Rattle.std.proofs.lemmas.Option.{get_or_from_slice_get, slice_get_within}
use Rattle.std.specs.Prelude.{slice_get}
use Rattle.std.specs.List.{AllByRecursion as Each}
use Rattle.mq_base.proofs.lemmas.Each.{Each-append, Each-front, Each-back, Each-any, Each-filter, Each-map, Each-flat_map, Each-weaker, Each-get}
use Rattle.mq_base.proofs.lemmas.Lists.{some_inj, sum-cons}
use Rattle.mq_core.specs.Event.{Event, time_of, node_of, earliest}
use Rattle.mq_core.specs.Event.Event.{Arrive, Finish}
use Rattle.mq_core.specs.Laws.{stream_of}
use Rattle.mq_core.specs.Local.{Local}
use Rattle.mq_core.specs.Machine.{Visit, Emission, Release, Service, Table, State, Station, after, happens, caused, arrivals_of, arrival_of, emission_of, emissions_of, emissions_at, reaction, visits_after, until, opened}
use Rattle.mq_core.specs.OnTime.{standard-on_time}
use Rattle.mq_core.specs.RowLaws.{IsSinceRow, NoneBeforeItsRow, row_times}
use Rattle.mq_core.specs.Run.{run_length, starts, starts_from}
use Rattle.mq_core.specs.StandardTable.{standard, run_of}
use Rattle.mq_core.specs.declared.model.Rows.{Rows}
use Rattle.mq_core.proofs.Events.Forward.{pending-no_earlier}
use Rattle.mq_core.proofs.Events.Pending.{earliest-splits}
use Rattle.mq_core.proofs.Events.Steps.{after-some, after-none, after-zero, station-other, station-own}
use Rattle.mq_core.proofs.Events.Tables.{IsFeedForward, IsPunctual}
use Rattle.mq_core.proofs.Events.Third.{now-current}
use Rattle.mq_core.proofs.Networks.Wired.{feeds_forward}

-- what is said of a job by a time, and then by every later one
abbrev By : Type 1
By = ℕ → ℕ → Type 0

abbrev Stays : By → Type 0
Stays P = (job now later : ℕ) → now ≤ later → P job now → P job later

-- an arrival has it
abbrev Brings : By → Event → Type 0
Brings P (Arrive time node port job) = P job time
Brings P (Finish time node server position) = Unit {0}

-- every job in a state has it, by when it comes, came or left
record Since {L : Type 0} (P : By) (s : State L) : Type 0 where
  pub pending : Each (Brings P) s.pending
  pub current : Each (λ f. s.clock ≤ time_of f) s.pending
  pub here : (v : ℕ) → Each (λ (x : Visit). P x.job s.clock) (s.stations v).visits
  pub came : (v : ℕ) → Each (λ (x : Visit). P x.job x.arrive) (s.stations v).visits
  pub left : (v : ℕ) → Each (λ (m : Emission). P m.job m.time) (s.stations v).emitted

-- what is let out now
emissions-since : (P : By) (now : ℕ) (visits : List Visit) (releases : List Release) → Each (λ (x : Visit). P x.job now) visits → Each (λ (m : Emission). P m.job m.time) (emissions_of now visits releases)
emissions-since P now visits releases h = Each-flat_map (λ _. Unit {0}) _ _ (λ r _. go r (slice_get visits r.position) refl) releases (Each-any _ (λ _. tt) releases)
  where
    go : (r : Release) (o : Option Visit) → slice_get visits r.position ≡ o → Each (λ (m : Emission). P m.job m.time) (emission_of now r.out r.position o)
    go r None e = tt
    go r (Some x) e = (Each-get (λ (y : Visit). P y.job now) visits r.position x h e, tt)

caused-since : {L : Type 0} (t : Table L) (P : By) (s : Station L) (e : Event) → Each (λ (x : Visit). P x.job (time_of e)) (visits_after t s e) → Each (Brings P) (caused t s e)
caused-since t P s e h =
    Each-append _ (arrivals_of t (node_of e) (emissions_at t s e)) _
    (Each-flat_map (λ (m : Emission). P m.job m.time) (Brings P) (λ m. arrival_of m.time m.job (t.reader (node_of e) m.out)) (λ m l. go m l (t.reader (node_of e) m.out)) (emissions_at t s e) (emissions-since P (time_of e) (visits_after t s e) (reaction t s e).releases h))
    (Each-map (λ (_ : Service). Unit {0}) (Brings P) _ (λ v _. tt) (reaction t s e).services (Each-any _ (λ _. tt) (reaction t s e).services))
  where
    go : (m : Emission) → P m.job m.time → (r : Option (ℕ × ℕ)) → Each (Brings P) (arrival_of m.time m.job r)
    go m l None = tt
    go m l (Some to) = (l, tt)

-- a visit by its own time, and by the time of the event that brings it
visits_after-here : {L : Type 0} (t : Table L) (P : By) (s : Station L) (e : Event) → Brings P e → Each (λ (x : Visit). P x.job (time_of e)) s.visits → Each (λ (x : Visit). P x.job (time_of e)) (visits_after t s e)
visits_after-here t P s (Arrive time node port job) b h = Each-append _ s.visits _ h (b, tt)
visits_after-here t P s (Finish time node server position) b h = h

visits_after-came : {L : Type 0} (t : Table L) (P : By) (s : Station L) (e : Event) → Brings P e → Each (λ (x : Visit). P x.job x.arrive) s.visits → Each (λ (x : Visit). P x.job x.arrive) (visits_after t s e)
visits_after-came t P s (Arrive time node port job) b h = Each-append _ s.visits _ h (b, tt)
visits_after-came t P s (Finish time node server position) b h = h

module _ {L : Type 0} (t : Table L) (on_time : IsPunctual t) (forward : IsFeedForward t) (P : By) (stays : Stays P) where
  since-happens : (s : State L) (p : Event × List Event) → earliest t.rank s.pending ≡ Some p → Since P s → Since P (happens t s p)
  since-happens s p q h =
      record {
        pending = Each-append _ p.1 _ left (caused-since t P (until t s now (node_of p.0)) p.0 (own (node_of p.0)));
        current = Each-weaker _ _ (λ f k. k.0) (happens t s p).pending (pending-no_earlier t on_time forward s p q);
        here = λ v. here-now v (eqb v (node_of p.0)) refl;
        came = λ v. came-now v (eqb v (node_of p.0)) refl;
        left = λ v. left-now v (eqb v (node_of p.0)) refl;
      }
    where
      now : ℕ
      now = time_of p.0

      all : Each (Brings P) ((earliest-splits t.rank s.pending p q).front ++ p.0 ∷ (earliest-splits t.rank s.pending p q).back)
      all = subst (Each (Brings P)) (earliest-splits t.rank s.pending p q).whole h.pending

      brought : Brings P p.0
      brought = (Each-back _ (earliest-splits t.rank s.pending p q).front (p.0 ∷ (earliest-splits t.rank s.pending p q).back) all).0

      left : Each (Brings P) p.1
      left =
          let k = earliest-splits t.rank s.pending p q in
          subst (Each (Brings P)) (sym k.left) (Each-append _ k.front k.back (Each-front _ k.front (p.0 ∷ k.back) all) (Each-back _ k.front (p.0 ∷ k.back) all).1)

      -- who is there by the clock is there by now
      later : (v : ℕ) → Each (λ (x : Visit). P x.job now) (s.stations v).visits
      later v = Each-weaker _ _ (λ x k. stays x.job s.clock now (now-current t s p q h.current) k) (s.stations v).visits (h.here v)

      own : (v : ℕ) → Each (λ (x : Visit). P x.job now) (visits_after t (until t s now v) p.0)
      own v = visits_after-here t P (until t s now v) p.0 brought (later v)

      here-now : (v : ℕ) (b : Bool) → eqb v (node_of p.0) ≡ b → Each (λ (x : Visit). P x.job now) ((happens t s p).stations v).visits
      here-now v true e = rw (station-own t s p v e) (own v)
      here-now v false e = rw (station-other t s p v e) (later v)

      came-now : (v : ℕ) (b : Bool) → eqb v (node_of p.0) ≡ b → Each (λ (x : Visit). P x.job x.arrive) ((happens t s p).stations v).visits
      came-now v true e = rw (station-own t s p v e) (visits_after-came t P (until t s now v) p.0 brought (h.came v))
      came-now v false e = rw (station-other t s p v e) (h.came v)

      left-now : (v : ℕ) (b : Bool) → eqb v (node_of p.0) ≡ b → Each (λ (m : Emission). P m.job m.time) ((happens t s p).stations v).emitted
      left-now v true e = rw (station-own t s p v e) (Each-append _ (s.stations v).emitted _ (h.left v) (emissions-since P now (visits_after t (until t s now v) p.0) (reaction t (until t s now v) p.0).releases (own v)))
      left-now v false e = rw (station-other t s p v e) (h.left v)

  since-after : (count : ℕ) (s : State L) → Since P s → Since P (after count t s)
  since-after zero s h = rw (after-zero t s) h
  since-after (suc count) s h = go (earliest t.rank s.pending) refl (since-after count)
    where
      go : (r : Option (Event × List Event)) → earliest t.rank s.pending ≡ r → ((s' : State L) → Since P s' → Since P (after count t s')) → Since P (after (suc count) t s)
      go None q ih = rw (after-none (suc count) t s q) h
      go (Some p) q ih = rw (after-some count t s p q) (ih (happens t s p) (since-happens s p q h))

-- a run begins with its rows
starts-since : (P : By) (job : ℕ) (sources times : List ℕ) → ((k time : ℕ) → slice_get times k ≡ Some time → P (job + k) time) → Each (Brings P) (starts_from job sources times)
starts-since P job [] times h = tt
starts-since P job (s ∷ ss) [] h = tt
starts-since P job (s ∷ ss) (t ∷ ts) h =
    let first : P job t = subst (λ j. P j t) (let same : job + 0 ≡ job = omega arith in same) (h 0 t refl) in
    (first, starts-since P (suc job) ss ts (λ k time e. subst (λ j. P j time) (let same : job + suc k ≡ suc job + k = omega arith in same) (h (suc k) time e)))

starts-current : (job : ℕ) (sources times : List ℕ) → Each (λ f. 0 ≤ time_of f) (starts_from job sources times)
starts-current job sources times = Each-any _ (λ f. omega arith) (starts_from job sources times)

-- a row is no later than itself
row-since : (rows : Rows) (k time : ℕ) → slice_get rows.time k ≡ Some time → IsSinceRow rows k time
row-since rows k time e = record { row = slice_get_within rows.time k time e; since = let same = get_or_from_slice_get rows.time k time 0 e in omega arith }

-- an item of a stream is an emission
stream-at : (rows : Rows) (ms : List Emission) (k job time : ℕ) → Each (λ (m : Emission). IsSinceRow rows m.job m.time) ms → slice_get (map (λ (m : Emission). m.job) ms) k ≡ Some job → slice_get (map (λ (m : Emission). m.time) ms) k ≡ Some time → IsSinceRow rows job time
stream-at rows [] k job time h e f = absurd cc
stream-at rows (m ∷ ms) zero job time h e f = subst (λ j. IsSinceRow rows j time) (some_inj m.job job e) (subst (λ t. IsSinceRow rows m.job t) (some_inj m.time time f) h.0)
stream-at rows (m ∷ ms) (suc k) job time h e f = stream-at rows ms k job time h.1 e f

-- what is summed up, with the times of the rows, is the times at which they left
exit-whole : (rows : Rows) (ms : List Emission) → Each (λ (m : Emission). IsSinceRow rows m.job m.time) ms → sum_by (λ (m : Emission). m.time - slice_index rows.time m.job) ms + sum (row_times rows (map (λ (m : Emission). m.job) ms)) ≡ sum (map (λ (m : Emission). m.time) ms)
exit-whole rows [] h = refl
exit-whole rows (m ∷ ms) h =
    let one = sum_by-cons (λ (e : Emission). e.time - slice_index rows.time e.job) m ms in
    let two = sum-cons (slice_index rows.time m.job) (row_times rows (map (λ (e : Emission). e.job) ms)) in
    let three = sum-cons m.time (map (λ (e : Emission). e.time) ms) in
    let since = h.0.since in
    let rest = exit-whole rows ms h.1 in
    omega arith

pub none-before_its_row : NoneBeforeItsRow
none-before_its_row plan rows v =
    record {
      visits = h.came v;
      emitted = h.left v;
      streams = λ out position job time e f. stream-at rows (stream_of out s.emitted) position job time (stream out) e f;
      exits = λ out. exit-whole rows (stream_of out s.emitted) (stream out);
    }
  where
    s : Station Local
    s = (run_of plan rows).stations v

    h : Since (IsSinceRow rows) (run_of plan rows)
    h =
        since-after (standard plan rows) (standard-on_time plan rows) (feeds_forward plan (standard plan rows) refl refl) (IsSinceRow rows) (λ job now later l k. record { row = k.row; since = let m = k.since in omega arith }) (run_length plan.net.nodes rows) (opened (standard plan rows) (starts rows))
        (record {
          pending = starts-since (IsSinceRow rows) 0 rows.source rows.time (λ k time e. subst (λ j. IsSinceRow rows j time) (let same : k ≡ 0 + k = omega arith in same) (row-since rows k time e));
          current = starts-current 0 rows.source rows.time;
          here = λ u. tt;
          came = λ u. tt;
          left = λ u. tt;
        })

    stream : (out : ℕ) → Each (λ (m : Emission). IsSinceRow rows m.job m.time) (stream_of out s.emitted)
    stream out = Each-filter _ (λ (m : Emission). eqb m.out out) s.emitted (h.left v)
