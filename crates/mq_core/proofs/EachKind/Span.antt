-- That the clock of a run ends at the latest departure.
use Rattle.std.proofs.Common.{List, None, Option, Some, [], ap, arith, eq-eqb, false, inl, inr, length, length-append, refl, subst, suc, sym, zero, ℕ, ◌++◌, ◌<◌, ◌∙◌, ◌∷◌, ◌≡◌, ◌⊎◌}
use Rattle.std.specs.List.{AllByRecursion as Each}
use Rattle.std.specs.Prelude.{IfSome, filter, slice_get}
use Rattle.mq_base.proofs.lemmas.Lists.{get-last}
use Rattle.mq_core.specs.Event.{Event, earliest}
use Rattle.mq_core.specs.Event.Event.{Arrive, Finish}
use Rattle.mq_core.specs.Fates.{ComesAt, LeavesAt, SpanIsLatest, keeps_visits}
use Rattle.mq_core.proofs.Events.Tables.{IsFeedForward, IsPunctual}
use Rattle.mq_core.specs.Laws.{is_finish_at}
use Rattle.mq_core.specs.Local.{Local}
use Rattle.mq_core.specs.Machine.{Emission, State, Station, Table, acted, after, emissions_at, emissions_of, happens, opened, reaction, until}
use Rattle.mq_core.specs.OnTime.{standard-on_time}
use Rattle.mq_core.specs.Run.{run_length, starts}
use Rattle.mq_core.specs.Standard.{node_jobs, node_on, standard_handle, standard_jobs}
use Rattle.mq_core.specs.StandardTable.{run_of, standard}
use Rattle.mq_core.specs.Tallies.{arrival_or}
use Rattle.mq_core.specs.Wiring.{reader_from}
use Rattle.mq_core.specs.declared.model.Node.{Node}
use Rattle.mq_core.specs.declared.model.Rows.{Rows}
use Rattle.mq_core.proofs.EachKind.Ends.{none-held}
use Rattle.mq_core.proofs.EachKind.Facts.{node_fact, standard-keeps}
use Rattle.mq_core.proofs.EachKind.KindLaws.{IsFilled}
use Rattle.mq_core.proofs.EachKind.LawTable.{laws_of}
use Rattle.mq_core.proofs.EachKind.Tallied.{KnownAt, areas-by, known-keeps}
use Rattle.mq_core.proofs.Events.Forward.{emissions-now}
use Rattle.mq_core.proofs.Events.Kept.{Fact, Holds, Keeps, holds-happens, holds-start, holds-until, kept}
use Rattle.mq_core.proofs.Events.Past.{IsPast}
use Rattle.mq_core.proofs.Events.Pending.{earliest-filter}
use Rattle.mq_core.proofs.Events.Steps.{after-none, after-some, after-zero, station-own}
use Rattle.mq_core.proofs.Networks.Whole.{starts-begin}
use Rattle.mq_core.proofs.Networks.Wired.{feeds_forward}
use Rattle.mq_core.proofs.Passing.Passes.{no_finish}
use Rattle.mq_core.proofs.Sequences.SequenceMerges.{visits-nowhere}

-- some node holds a job, of those where none stays for good
abbrev IsInside : Table Local → (ℕ → Type 0) → State Local → Type 0
IsInside t Leave s = (v : ℕ) × (Leave v × (0 < t.jobs v (s.stations v).visits (s.stations v).local))

-- a visit that comes at the time of the clock
abbrev IsComing : State Local → Type 0
IsComing s = (v : ℕ) × (position : ℕ) × (position < length (s.stations v).visits) × (arrival_or 0 (slice_get (s.stations v).visits position) ≡ s.clock)

abbrev Reached : Table Local → List Node → (ℕ → Type 0) → State Local → Type 0
Reached t nodes Leave s = (s.clock ≡ 0) ⊎ (IsComing s ⊎ (LeavesAt nodes s s.clock ⊎ IsInside t Leave s))

-- a finish lets something out, or leaves a job in a node where none stays for good
abbrev Shows : Table Local → (ℕ → Type 0) → ℕ → Station Local → Event → Type 0
Shows t Leave v s e = IsFilled (emissions_at t s e) ⊎ (Leave v × (0 < t.jobs v s.visits (reaction t s e).local))

module _ (t : Table Local) (nodes : List Node) (Leave : ℕ → Type 0) (P : Fact Local) (keeps : Keeps t P) (there : (v server position : ℕ) (s : Station Local) (fs rest : List Event) (now : ℕ) → P v s fs now → earliest t.rank fs ≡ Some (Finish now v server position, rest) → (declared : Node) × (slice_get nodes v ≡ Some declared)) (emits : (v server position : ℕ) (s : Station Local) (fs rest : List Event) (now : ℕ) → P v s fs now → earliest t.rank fs ≡ Some (Finish now v server position, rest) → Shows t Leave v s (Finish now v server position)) where
  -- an event reaches its time, or leaves a job in its node
  event-reaches : (s : State Local) (e : Event) (rest : List Event) → earliest t.rank s.pending ≡ Some (e, rest) → Holds t P s → Reached t nodes Leave (happens t s (e, rest))
  event-reaches s (Arrive now n port job) rest q h =
      let own = station-own t s (Arrive now n port job, rest) n (eq-eqb n n refl) in
      inr (inl (
        n,
        length (s.stations n).visits,
        subst (λ (z : Station Local). length (s.stations n).visits < length z.visits) (sym own) (omega (arith, length-append (s.stations n).visits (record { job = job; arrive = now; port = port; found = t.jobs n (s.stations n).visits (s.stations n).local } ∷ []))),
        subst (λ (z : Station Local). arrival_or 0 (slice_get z.visits (length (s.stations n).visits)) ≡ now) (sym own) (ap (arrival_or 0) (get-last (s.stations n).visits (record { job = job; arrive = now; port = port; found = t.jobs n (s.stations n).visits (s.stations n).local }))),
      ))
  event-reaches s (Finish now n server position) rest q h =
      let own = station-own t s (Finish now n server position, rest) n (eq-eqb n n refl) in
      let first = earliest-filter t.rank (is_finish_at n) s.pending (Finish now n server position, rest) q (eq-eqb n n refl) in
      let held = holds-until t P keeps s (Finish now n server position, rest) q h n in
      let left = filter (is_finish_at n) rest in
      go own (there n server position (until t s now n) (filter (is_finish_at n) s.pending) left now held first) (emits n server position (until t s now n) (filter (is_finish_at n) s.pending) left now held first)
    where
      go : (happens t s (Finish now n server position, rest)).stations n ≡ acted t (until t s now n) (Finish now n server position) → (declared : Node) × (slice_get nodes n ≡ Some declared) → Shows t Leave n (until t s now n) (Finish now n server position) → Reached t nodes Leave (happens t s (Finish now n server position, rest))
      go own node (inl some) =
          inr (inr (inl (record {
            node = n;
            declared = node.0;
            there = node.1;
            before = (s.stations n).emitted;
            emission = some.0;
            after = some.1;
            inside = ap (λ (z : Station Local). z.emitted) own ∙ ap (λ l. (s.stations n).emitted ++ l) some.2;
            at = (subst (Each (λ (m : Emission). m.time ≡ now)) some.2 (emissions-now t (until t s now n) (Finish now n server position))).0;
          })))
      go own node (inr more) = inr (inr (inr (n, (more.0, subst (λ (z : Station Local). 0 < t.jobs n z.visits z.local) (sym own) more.1))))

  reached-after : IsPunctual t → IsFeedForward t → (n : ℕ) (s : State Local) → Holds t P s → Reached t nodes Leave s → Reached t nodes Leave (after n t s)
  reached-after on_time forward zero s h r = rw (after-zero t s) r
  reached-after on_time forward (suc n) s h r = go (earliest t.rank s.pending) refl (reached-after on_time forward n)
    where
      go : (o : Option (Event × List Event)) → earliest t.rank s.pending ≡ o → ((s' : State Local) → Holds t P s' → Reached t nodes Leave s' → Reached t nodes Leave (after n t s')) → Reached t nodes Leave (after (suc n) t s)
      go None q ih = rw (after-none (suc n) t s q) r
      go (Some p) q ih = rw (after-some n t s p q) (ih (happens t s p) (holds-happens t P keeps on_time forward s p q h) (event-reaches s p.0 p.1 q h))

-- a finish is at a node of the network
node-there : (rows : Rows) (o : Option Node) (rank : ℕ → ℕ) (v server position : ℕ) (s : Station Local) (fs rest : List Event) (now : ℕ) → node_fact rows o v s fs now → earliest rank fs ≡ Some (Finish now v server position, rest) → (declared : Node) × (o ≡ Some declared)
node-there rows None rank v server position s fs rest now h first = absurd (no_finish rank fs rest _ h first)
node-there rows (Some node) rank v server position s fs rest now h first = (node, refl)

node-emits : (rows : Rows) (o : Option Node) (rank : ℕ → ℕ) (v server position : ℕ) (s : Station Local) (fs rest : List Event) (now : ℕ) → node_fact rows o v s fs now → earliest rank fs ≡ Some (Finish now v server position, rest) →
    IsFilled (emissions_of now s.visits (node_on rows o s.visits s.local now (Finish now v server position)).releases) ⊎ (IfSome o (λ node. keeps_visits node.kind ≡ false) × (0 < node_jobs o s.visits (node_on rows o s.visits s.local now (Finish now v server position)).local))
node-emits rows None rank v server position s fs rest now h first = absurd (no_finish rank fs rest _ h first)
node-emits rows (Some node) rank v server position s fs rest now h first = (laws_of rows (length node.inputs) node.kind).shows rank v server position s fs rest now first h

pub span-is_latest : SpanIsLatest
unfolding standard_handle standard_jobs
span-is_latest plan rows read =
    record {
      came = λ v l. (areas-by plan rows v l).came;
      left = λ v l. (past v).left;
      reached = over (reached-after (standard plan rows) plan.net.nodes leave (λ u. node_fact rows (slice_get plan.net.nodes u) u) (standard-keeps plan rows (reader_from 0 plan.net.nodes) refl)
          (λ v server position s fs rest now h first. node-there rows (slice_get plan.net.nodes v) _ v server position s fs rest now h first)
          (λ v server position s fs rest now h first. node-emits rows (slice_get plan.net.nodes v) _ v server position s fs rest now h first)
          (standard-on_time plan rows) (feeds_forward plan (standard plan rows) refl refl) (run_length plan.net.nodes rows) (opened (standard plan rows) (starts rows))
          (holds-start (standard plan rows) (λ u. node_fact rows (slice_get plan.net.nodes u) u) (standard-keeps plan rows (reader_from 0 plan.net.nodes) refl) (starts rows) (starts-begin (standard plan rows) 0 rows.source rows.time))
          (inl refl));
    }
  where
    -- a node where no visit stays for good
    leave : ℕ → Type 0
    leave v = IfSome (slice_get plan.net.nodes v) (λ node. keeps_visits node.kind ≡ false)

    -- no visit comes where there is no node
    comes : (v position : ℕ) (o : Option Node) → slice_get plan.net.nodes v ≡ o → position < length ((run_of plan rows).stations v).visits → arrival_or 0 (slice_get ((run_of plan rows).stations v).visits position) ≡ (run_of plan rows).clock → ComesAt plan.net.nodes (run_of plan rows) (run_of plan rows).clock
    comes v position None here inside at = absurd (let none = visits-nowhere plan rows read v here in omega arith)
    comes v position (Some declared) here inside at = record { node = v; declared = declared; there = here; position = position; inside = inside; at = at }

    -- at the end no such node holds a job
    over : Reached (standard plan rows) plan.net.nodes leave (run_of plan rows) → ((run_of plan rows).clock ≡ 0) ⊎ (ComesAt plan.net.nodes (run_of plan rows) (run_of plan rows).clock ⊎ LeavesAt plan.net.nodes (run_of plan rows) (run_of plan rows).clock)
    over (inl h) = inl h
    over (inr (inl h)) = inr (inl (comes h.0 h.1 (slice_get plan.net.nodes h.0) refl h.2 h.3))
    over (inr (inr (inl h))) = inr (inr h)
    over (inr (inr (inr h))) = absurd (let some = h.1.1 in let none = none-held plan rows read h.0 h.1.0 in omega arith)

    past : (v : ℕ) → IsPast ((run_of plan rows).stations v) (run_of plan rows).clock
    past v = (kept (standard plan rows) (KnownAt plan rows) (known-keeps plan rows) (standard-on_time plan rows) (feeds_forward plan (standard plan rows) refl refl) (starts rows) (starts-begin (standard plan rows) 0 rows.source rows.time) (run_length plan.net.nodes rows) v).1
