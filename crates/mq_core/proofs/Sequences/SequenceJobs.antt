-- That all jobs of a run are rows.
use Rattle.std.proofs.Common.{◌≡◌, ℕ, zero, suc, ◌+◌, ◌<◌, ◌≤◌, Bool, true, false, eqb, List, [], ◌∷◌, ◌++◌, length, Option, Some, None, sym, refl, subst, arith}
use Rattle.std.specs.Prelude.{slice_get}
use Rattle.std.specs.List.{AllByRecursion as Each}
use Rattle.mq_base.proofs.lemmas.Each.{Each-append, Each-front, Each-back, Each-any, Each-map, Each-flat_map, Each-get}
use Rattle.mq_core.specs.SequenceLaws.{JobsAreRows}
use Rattle.mq_core.specs.Event.{Event, time_of, node_of, earliest}
use Rattle.mq_core.specs.Event.Event.{Arrive, Finish}
use Rattle.mq_core.specs.Machine.{Visit, Emission, Release, Service, Table, State, Station, after, happens, caused, arrivals_of, arrival_of, emission_of, emissions_of, emissions_at, reaction, visits_after, until, opened}
use Rattle.mq_core.specs.Run.{run_length, starts, starts_from}
use Rattle.mq_core.specs.StandardTable.{standard, run_of}
use Rattle.mq_core.proofs.Events.Pending.{earliest-splits}
use Rattle.mq_core.proofs.Events.Steps.{after-some, after-none, after-zero, station-other, station-own}

-- an arrival of a job below n
abbrev pub BringsBelow : ℕ → Event → Type 0
BringsBelow n (Arrive time node port job) = job < n
BringsBelow n (Finish time node server position) = Unit {0}

abbrev pub VisitsBelow : ℕ → List Visit → Type 0
VisitsBelow n visits = Each (λ (x : Visit). x.job < n) visits

-- every job in a state is below n
pub record JobsBelow {L : Type 0} (n : ℕ) (s : State L) : Type 0 where
  pub pending : Each (BringsBelow n) s.pending
  pub visits : (v : ℕ) → VisitsBelow n (s.stations v).visits

emissions-below : (n now : ℕ) (visits : List Visit) (releases : List Release) → VisitsBelow n visits → Each (λ (m : Emission). m.job < n) (emissions_of now visits releases)
emissions-below n now visits releases h = Each-flat_map (λ _. Unit {0}) _ _ (λ r _. go r (slice_get visits r.position) refl) releases (Each-any _ (λ _. tt) releases)
  where
    go : (r : Release) (o : Option Visit) → slice_get visits r.position ≡ o → Each (λ (m : Emission). m.job < n) (emission_of now r.out r.position o)
    go r None e = tt
    go r (Some x) e = (Each-get (λ (y : Visit). y.job < n) visits r.position x h e, tt)

caused-below : {L : Type 0} (t : Table L) (n : ℕ) (s : Station L) (e : Event) → VisitsBelow n (visits_after t s e) → Each (BringsBelow n) (caused t s e)
caused-below t n s e h =
    Each-append _ (arrivals_of t (node_of e) (emissions_at t s e)) _
    (Each-flat_map (λ (m : Emission). m.job < n) (BringsBelow n) (λ m. arrival_of m.time m.job (t.reader (node_of e) m.out)) (λ m l. go m l (t.reader (node_of e) m.out)) (emissions_at t s e) (emissions-below n (time_of e) (visits_after t s e) (reaction t s e).releases h))
    (Each-map (λ (_ : Service). Unit {0}) (BringsBelow n) _ (λ v _. tt) (reaction t s e).services (Each-any _ (λ _. tt) (reaction t s e).services))
  where
    go : (m : Emission) → m.job < n → (r : Option (ℕ × ℕ)) → Each (BringsBelow n) (arrival_of m.time m.job r)
    go m l None = tt
    go m l (Some to) = (l, tt)

visits_after-below : {L : Type 0} (t : Table L) (n : ℕ) (s : Station L) (e : Event) → BringsBelow n e → VisitsBelow n s.visits → VisitsBelow n (visits_after t s e)
visits_after-below t n s (Arrive time node port job) b h = Each-append _ s.visits _ h (b, tt)
visits_after-below t n s (Finish time node server position) b h = h

below-happens : {L : Type 0} (t : Table L) (n : ℕ) (s : State L) (p : Event × List Event) → earliest t.rank s.pending ≡ Some p → JobsBelow n s → JobsBelow n (happens t s p)
below-happens t n s p q h =
    record {
      pending = Each-append _ p.1 _ left (caused-below t n (until t s (time_of p.0) (node_of p.0)) p.0 (own (node_of p.0)));
      visits = λ v. go v (eqb v (node_of p.0)) refl;
    }
  where
    all : Each (BringsBelow n) ((earliest-splits t.rank s.pending p q).front ++ p.0 ∷ (earliest-splits t.rank s.pending p q).back)
    all = subst (Each (BringsBelow n)) (earliest-splits t.rank s.pending p q).whole h.pending

    left : Each (BringsBelow n) p.1
    left =
        let k = earliest-splits t.rank s.pending p q in
        subst (Each (BringsBelow n)) (sym k.left) (Each-append _ k.front k.back (Each-front _ k.front (p.0 ∷ k.back) all) (Each-back _ k.front (p.0 ∷ k.back) all).1)

    own : (v : ℕ) → VisitsBelow n (visits_after t (until t s (time_of p.0) v) p.0)
    own v =
        let k = earliest-splits t.rank s.pending p q in
        visits_after-below t n (until t s (time_of p.0) v) p.0 (Each-back _ k.front (p.0 ∷ k.back) all).0 (h.visits v)

    go : (v : ℕ) (b : Bool) → eqb v (node_of p.0) ≡ b → VisitsBelow n ((happens t s p).stations v).visits
    go v true e = rw (station-own t s p v e) (own v)
    go v false e = rw (station-other t s p v e) (h.visits v)

below-after : {L : Type 0} (t : Table L) (n count : ℕ) (s : State L) → JobsBelow n s → JobsBelow n (after count t s)
below-after t n zero s h = rw (after-zero t s) h
below-after {L} t n (suc count) s h = go (earliest t.rank s.pending) refl (below-after t n count)
  where
    go : (r : Option (Event × List Event)) → earliest t.rank s.pending ≡ r → ((s' : State L) → JobsBelow n s' → JobsBelow n (after count t s')) → JobsBelow n (after (suc count) t s)
    go None q ih = rw (after-none (suc count) t s q) h
    go (Some p) q ih = rw (after-some count t s p q) (ih (happens t s p) (below-happens t n s p q h))

starts-below : (n job : ℕ) (sources times : List ℕ) → job + length times ≤ n → Each (BringsBelow n) (starts_from job sources times)
starts-below n job [] times l = tt
starts-below n job (s ∷ ss) [] l = tt
starts-below n job (s ∷ ss) (t ∷ ts) l = (omega arith, starts-below n (suc job) ss ts (omega arith))

pub jobs-are-rows : JobsAreRows
jobs-are-rows plan rows v =
    let h = below-after (standard plan rows) (length rows.time) (run_length plan.net.nodes rows) (opened (standard plan rows) (starts rows)) (record { pending = starts-below (length rows.time) 0 rows.source rows.time (omega arith); visits = λ u. tt }) in
    Each-map _ _ (λ (x : Visit). x.job) (λ x l. l) ((run_of plan rows).stations v).visits (h.visits v)
