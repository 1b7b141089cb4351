-- A trunk group between two events.
use Rattle.std.proofs.Common.{◌≡◌, ◌⊎◌, inl, inr, ℕ, suc, ◌+◌, ◌<◌, ◌≤◌, Bool, true, false, cond, eqb, ltb, List, [], ◌∷◌, ◌++◌, length, map, Some, sym, refl, ap, ◌∙◌, subst, arith, length-append, eqb-true, ne_eqb}
use Rattle.std.proofs.lemmas.List.{append-nil, length-map, map-append}
use Rattle.std.proofs.lemmas.List.Elements.{filter-append}
use Rattle.std.specs.Prelude.{filter, not}
use Rattle.std.specs.List.{AllByRecursion as Each}
use Rattle.mq_base.proofs.lemmas.Each.{Each-append, Each-both, Each-map, Each-weaker, filter-none, filter-no}
use Rattle.mq_core.specs.Event.{Event, time_of, earliest}
use Rattle.mq_core.specs.Event.Event.{Arrive, Finish}
use Rattle.mq_core.specs.Machine.{Visit, Emission, finishes_of, emissions_of, emission_of}
use Rattle.mq_core.specs.Local.{Local}
use Rattle.mq_core.specs.Handling.{demand_of_job, demand_of_visit, demand_at, latest, passes_on}
use Rattle.mq_core.specs.OnceOut.{faring_by}
use Rattle.mq_core.specs.Kinds.Trunk.{joins_service, trunk_on}
use Rattle.mq_core.specs.Recurrences.{busy_at, finds_server}
use Rattle.mq_core.specs.Tallies.{emission_at, one_if_none, staying, sum_below}
use Rattle.mq_core.specs.declared.model.Demand.{Demand}
use Rattle.mq_core.specs.declared.model.Rows.{Rows}
use Rattle.mq_core.specs.declared.model.Fate.TheVariants.{Lost}
use Rattle.mq_core.proofs.Delay.Schedules.{Scheduling, came_before-push, position_in, scheduling-ends, scheduling-joins, scheduling-opens, scheduling-waits, to_leave, to_leave-push}
use Rattle.mq_core.proofs.Events.Areas.{sum-same}
use Rattle.mq_core.proofs.Events.EmissionsAt.{found-behind, other-behind, unknown}
use Rattle.mq_core.proofs.Events.Pending.{Splits, earliest-splits}
use Rattle.mq_core.proofs.Loss.LossFlow.{fate_if, left_if}
use Rattle.mq_core.proofs.Server.Serves.{get-latest, latest-push}
use Rattle.mq_core.proofs.Trunk.TrunkFlow.{busy_at-all, busy_at-append, busy_at-past, faring-push, served_by, trunk_flow, trunk_left, trunk_left-push}
use Rattle.mq_core.proofs.lemmas.Rising.{Rises-append}

-- who left and who is still to leave are all visits, as they fare, and the servers that are busy from now on are those of the
-- pending finishes
pub record Trunking (rows : Rows) (servers : ℕ) (demand : Demand) (v : ℕ) (visits : List Visit) (scheduled : List ℕ) (emitted : List Emission) (fs : List Event) (now : ℕ) : Type 0 where
  pub at_once : Scheduling (trunk_flow rows servers demand visits) v visits scheduled emitted fs now
  pub taken : (k : ℕ) → now ≤ k → busy_at k (trunk_left rows servers demand [] visits) ≡ busy_at k (map time_of fs)

pub trunking-opens : (rows : Rows) (servers : ℕ) (demand : Demand) (v : ℕ) → Trunking rows servers demand v [] [] [] [] 0
trunking-opens rows servers demand v = record { at_once = scheduling-opens v; taken = λ k l. refl }

pub trunking-waits : (rows : Rows) (servers : ℕ) (demand : Demand) (v : ℕ) (visits : List Visit) (scheduled : List ℕ) (emitted : List Emission) (fs : List Event) (now later : ℕ) → now ≤ later → Trunking rows servers demand v visits scheduled emitted fs now → Trunking rows servers demand v visits scheduled emitted fs later
trunking-waits rows servers demand v visits scheduled emitted fs now later l h =
    record {
      at_once = scheduling-waits (trunk_flow rows servers demand visits) v visits scheduled emitted fs now later l h.at_once;
      taken = λ k u. h.taken k (omega arith);
    }

-- what is let out behind those of some time goes behind what is still to leave, where one of the two is nothing
swap : (gone last soon : List Emission) → (soon ≡ []) ⊎ (last ≡ []) → (gone ++ last) ++ soon ≡ (gone ++ soon) ++ last
swap gone last soon (inl e) = rw e (append-nil (gone ++ last) ∙ ap (λ l. l ++ last) (sym (append-nil gone)))
swap gone last soon (inr e) = rw e (ap (λ l. l ++ soon) (append-nil gone) ∙ sym (append-nil (gone ++ soon)))

-- an arrival that is let out at once by output 1, where all others leave later
pub scheduling-passes : (flow : List Emission) (v : ℕ) (visits : List Visit) (scheduled : List ℕ) (emitted : List Emission) (fs : List Event) (now : ℕ) (x : Visit) → x.arrive ≡ now → Each (λ f. now < time_of f) fs → Scheduling flow v visits scheduled emitted fs now →
    Scheduling (flow ++ faring_by (length visits) Lost x ∷ []) v (visits ++ x ∷ []) scheduled (emitted ++ emissions_of now (visits ++ x ∷ []) (record { out = 1; position = latest (visits ++ x ∷ []) } ∷ [])) (fs ++ []) now
scheduling-passes flow v visits scheduled emitted fs now x at soon h =
    subst (λ l. Scheduling (flow ++ m ∷ []) v (visits ++ x ∷ []) scheduled l (fs ++ []) now) (sym one)
    (rw (append-nil fs)
    (record {
      listed = h.listed;
      rising = h.rising;
      inside = Each-weaker _ _ (λ f k. (k.0, let l = k.1 in let s = size in omega arith)) fs h.inside;
      parts = λ k.
          ap (λ l. filter (λ (a : Emission). eqb a.time k) (emitted ++ m ∷ []) ++ filter (λ (a : Emission). eqb a.time k) l) (to_leave-push v visits x fs h.inside)
          ∙ (ap (λ l. l ++ filter (λ (a : Emission). eqb a.time k) (map (to_leave visits) fs)) (filter-append (λ (a : Emission). eqb a.time k) emitted (m ∷ []))
          ∙ (swap (filter (λ (a : Emission). eqb a.time k) emitted) (filter (λ (a : Emission). eqb a.time k) (m ∷ [])) (filter (λ (a : Emission). eqb a.time k) (map (to_leave visits) fs)) (apart k (eqb x.arrive k) refl)
          ∙ (ap (λ l. l ++ filter (λ (a : Emission). eqb a.time k) (m ∷ [])) (h.parts k)
          ∙ sym (filter-append (λ (a : Emission). eqb a.time k) flow (m ∷ [])))));
      ordered = Rises-append (λ (a b : Emission). a.time ≤ b.time) emitted (m ∷ []) h.ordered (tt, tt) (Each-weaker _ _ (λ a k. (omega arith, tt)) emitted h.before);
      before = Each-append _ emitted (m ∷ []) h.before (omega arith, tt);
      absent = Each-both _ _ _ (λ f k a. other-behind (position_in f) emitted m (λ q. let l = k.1 in omega arith) ∙ a) fs h.inside h.absent;
      known = Each-append _ emitted (m ∷ []) (Each-weaker _ _ (λ a k. let s = size in omega arith) emitted h.known) (let s = size in omega arith, tt);
      number = same;
      behind = came_before-push visits now x fs at soon h.behind;
    }))
  where
    m : Emission
    m = faring_by (length visits) Lost x

    size : length (visits ++ x ∷ []) ≡ suc (length visits)
    size = omega (arith, length-append visits (x ∷ []))

    one : emitted ++ emissions_of now (visits ++ x ∷ []) (record { out = 1; position = latest (visits ++ x ∷ []) } ∷ []) ≡ emitted ++ m ∷ []
    one =
        let p : latest (visits ++ x ∷ []) ≡ length visits = latest-push visits x in
        ap (λ o. emitted ++ (emission_of now 1 (latest (visits ++ x ∷ [])) o ++ [])) (get-latest visits x)
        ∙ (λ i. emitted ++ record { out = 1; position = p i; job = x.job; time = sym at i } ∷ [])

    -- nothing that is still to leave does so as this leaves
    apart : (k : ℕ) (b : Bool) → eqb x.arrive k ≡ b → (filter (λ (a : Emission). eqb a.time k) (map (to_leave visits) fs) ≡ []) ⊎ (filter (λ (a : Emission). eqb a.time k) (m ∷ []) ≡ [])
    apart k true e =
        let moment : x.arrive ≡ k = eqb-true x.arrive k e in
        inl (filter-none (λ (a : Emission). eqb a.time k) (map (to_leave visits) fs) (Each-map (λ f. now < time_of f) (λ (a : Emission). eqb a.time k ≡ false) (to_leave visits) (λ f l. ne_eqb (time_of f) k (λ q. omega arith)) fs soon))
    apart k false e = inr (filter-no (λ (a : Emission). eqb a.time k) m [] e)

    same : staying (visits ++ x ∷ []) (emission_at (emitted ++ m ∷ [])) ≡ length fs
    same =
        let a : staying (visits ++ x ∷ []) (emission_at (emitted ++ m ∷ [])) ≡ one_if_none (emission_at (emitted ++ m ∷ []) (length visits)) + sum_below (length visits) (λ p. one_if_none (emission_at (emitted ++ m ∷ []) p)) = ap (λ n. sum_below n (λ p. one_if_none (emission_at (emitted ++ m ∷ []) p))) size in
        let b = ap one_if_none (found-behind (length visits) emitted m refl (unknown (length visits) (length visits) emitted (omega arith) h.known)) in
        let c = sum-same (length visits) (λ p. one_if_none (emission_at (emitted ++ m ∷ []) p)) (λ p. one_if_none (emission_at emitted p)) (λ p l. ap one_if_none (other-behind p emitted m (λ q. omega arith))) in
        let d = h.number in
        omega arith

module _ (rows : Rows) (servers : ℕ) (demand : Demand) (v : ℕ) (visits : List Visit) (scheduled : List ℕ) (emitted : List Emission) (fs : List Event) (now : ℕ) (h : Trunking rows servers demand v visits scheduled emitted fs now) where
  -- an arrival finds a server exactly where fewer are in service than there are servers
  pub server-free : Each (λ f. now < time_of f) fs → finds_server servers (trunk_left rows servers demand [] visits) now ≡ ltb (length scheduled) servers
  server-free soon =
      let all : Each (λ time. now < time) (map time_of fs) = Each-map (λ f. now < time_of f) (λ time. now < time) time_of (λ f l. l) fs soon in
      ap (λ n. ltb n servers)
      (h.taken now (omega arith)
      ∙ (busy_at-all now (map time_of fs) all
      ∙ (length-map fs time_of
      ∙ (sym (length-map fs position_in) ∙ ap length (sym h.at_once.listed)))))

  module _ (x : Visit) (at : x.arrive ≡ now) (soon : Each (λ f. now < time_of f) fs) where
    -- what an arrival lets out, where it finds a server or not
    pub flow-grows : (b : Bool) → ltb (length scheduled) servers ≡ b → trunk_flow rows servers demand (visits ++ x ∷ []) ≡ trunk_flow rows servers demand visits ++ faring_by (length visits) (fate_if b (served_by rows demand x)) x ∷ []
    flow-grows b e =
        faring-push rows servers demand 0 [] visits x
        ∙ (ap (λ c. trunk_flow rows servers demand visits ++ faring_by (0 + length visits) (fate_if c (served_by rows demand x)) x ∷ []) (ap (finds_server servers (trunk_left rows servers demand [] visits)) at ∙ (server-free soon ∙ e))
        ∙ ap (λ n. trunk_flow rows servers demand visits ++ faring_by n (fate_if b (served_by rows demand x)) x ∷ []) (omega arith))

    -- the departures behind it
    left-grows : (b : Bool) → ltb (length scheduled) servers ≡ b → trunk_left rows servers demand [] (visits ++ x ∷ []) ≡ left_if b (served_by rows demand x) (trunk_left rows servers demand [] visits)
    left-grows b e =
        trunk_left-push rows servers demand [] visits x
        ∙ ap (λ c. left_if c (served_by rows demand x) (trunk_left rows servers demand [] visits)) (ap (finds_server servers (trunk_left rows servers demand [] visits)) at ∙ (server-free soon ∙ e))

    -- an arrival that finds a server
    pub trunking-joins : ltb (length scheduled) servers ≡ true →
        Trunking rows servers demand v (visits ++ x ∷ []) (scheduled ++ latest (visits ++ x ∷ []) ∷ []) (emitted ++ [])
        (fs ++ Finish (now + demand_at rows demand (visits ++ x ∷ []) (latest (visits ++ x ∷ []))) v 0 (latest (visits ++ x ∷ [])) ∷ []) now
    trunking-joins free =
        record {
          at_once =
              subst (λ flow. Scheduling flow v (visits ++ x ∷ []) (scheduled ++ latest (visits ++ x ∷ []) ∷ []) (emitted ++ []) (fs ++ new ∷ []) now) (sym (flow-grows true free))
              (scheduling-joins rows demand (trunk_flow rows servers demand visits) v visits scheduled emitted fs now x at soon h.at_once);
          taken = λ k l.
              let a = ap (busy_at k) (left-grows true free) in
              let b = h.taken k l in
              let c = busy_at-append k (served_by rows demand x ∷ []) (trunk_left rows servers demand [] visits) in
              let d = ap (busy_at k) (map-append time_of fs (new ∷ [])) in
              let e = busy_at-append k (map time_of fs) (time_of new ∷ []) in
              let f = ap (λ t. busy_at k (t ∷ [])) moment in
              omega arith;
        }
      where
        new : Event
        new = Finish (now + demand_at rows demand (visits ++ x ∷ []) (latest (visits ++ x ∷ []))) v 0 (latest (visits ++ x ∷ []))

        moment : now + demand_at rows demand (visits ++ x ∷ []) (latest (visits ++ x ∷ [])) ≡ served_by rows demand x
        moment =
            ap (λ o. now + demand_of_visit rows demand o) (get-latest visits x)
            ∙ ap (λ n. n + demand_of_job rows demand x.job) (sym at)

    -- an arrival that finds none
    pub trunking-passes : ltb (length scheduled) servers ≡ false →
        Trunking rows servers demand v (visits ++ x ∷ []) scheduled (emitted ++ emissions_of now (visits ++ x ∷ []) (record { out = 1; position = latest (visits ++ x ∷ []) } ∷ [])) (fs ++ []) now
    trunking-passes full =
        record {
          at_once =
              subst (λ flow. Scheduling flow v (visits ++ x ∷ []) scheduled (emitted ++ emissions_of now (visits ++ x ∷ []) (record { out = 1; position = latest (visits ++ x ∷ []) } ∷ [])) (fs ++ []) now) (sym (flow-grows false full))
              (scheduling-passes (trunk_flow rows servers demand visits) v visits scheduled emitted fs now x at soon h.at_once);
          taken = λ k l. ap (busy_at k) (left-grows false full) ∙ (h.taken k l ∙ ap (λ gs. busy_at k (map time_of gs)) (sym (append-nil fs)));
        }

-- an arrival at a trunk group
pub trunking-arrives : (rows : Rows) (servers : ℕ) (demand : Demand) (v port : ℕ) (local : Local) (visits : List Visit) (emitted : List Emission) (fs : List Event) (now : ℕ) (x : Visit) → x.arrive ≡ now → Each (λ f. now < time_of f) fs → Trunking rows servers demand v visits local.scheduled emitted fs now →
    Trunking rows servers demand v (visits ++ x ∷ [])
    (trunk_on rows servers demand (visits ++ x ∷ []) local now (Arrive now v port x.job)).local.scheduled
    (emitted ++ emissions_of now (visits ++ x ∷ []) (trunk_on rows servers demand (visits ++ x ∷ []) local now (Arrive now v port x.job)).releases)
    (fs ++ finishes_of v (trunk_on rows servers demand (visits ++ x ∷ []) local now (Arrive now v port x.job)).services) now
trunking-arrives rows servers demand v port local visits emitted fs now x at soon h = go (ltb (length local.scheduled) servers) refl
  where
    go : (b : Bool) → ltb (length local.scheduled) servers ≡ b → Trunking rows servers demand v (visits ++ x ∷ [])
        (cond b (joins_service rows demand (visits ++ x ∷ []) local now (latest (visits ++ x ∷ []))) (passes_on local 1 (latest (visits ++ x ∷ [])))).local.scheduled
        (emitted ++ emissions_of now (visits ++ x ∷ []) (cond b (joins_service rows demand (visits ++ x ∷ []) local now (latest (visits ++ x ∷ []))) (passes_on local 1 (latest (visits ++ x ∷ [])))).releases)
        (fs ++ finishes_of v (cond b (joins_service rows demand (visits ++ x ∷ []) local now (latest (visits ++ x ∷ []))) (passes_on local 1 (latest (visits ++ x ∷ [])))).services) now
    go true e = trunking-joins rows servers demand v visits local.scheduled emitted fs now h x at soon e
    go false e = trunking-passes rows servers demand v visits local.scheduled emitted fs now h x at soon e

-- a finish at a trunk group
pub trunking-ends : (rows : Rows) (servers : ℕ) (demand : Demand) (rank : ℕ → ℕ) (v server position : ℕ) (visits : List Visit) (scheduled : List ℕ) (emitted : List Emission) (fs rest : List Event) (now : ℕ) → earliest rank fs ≡ Some (Finish now v server position, rest) → Trunking rows servers demand v visits scheduled emitted fs now →
    Trunking rows servers demand v visits (filter (λ p. not (eqb p position)) scheduled) (emitted ++ emissions_of now visits (record { out = 0; position = position } ∷ [])) (rest ++ []) now
trunking-ends rows servers demand rank v server position visits scheduled emitted fs rest now first h =
    record {
      at_once = scheduling-ends (trunk_flow rows servers demand visits) rank v server position visits scheduled emitted fs rest now first h.at_once;
      taken = λ k l. h.taken k l ∙ go k l (earliest-splits rank fs (Finish now v server position, rest) first);
    }
  where
    go : (k : ℕ) → now ≤ k → Splits rank fs (Finish now v server position, rest) → busy_at k (map time_of fs) ≡ busy_at k (map time_of (rest ++ []))
    go k l s =
        let a = ap (λ gs. busy_at k (map time_of gs)) s.whole ∙ ap (busy_at k) (map-append time_of s.front (Finish now v server position ∷ s.back)) in
        let b = busy_at-append k (map time_of s.front) (now ∷ map time_of s.back) in
        let c = busy_at-append k (now ∷ []) (map time_of s.back) in
        let d = busy_at-past k now l in
        let e = ap (λ gs. busy_at k (map time_of gs)) (append-nil rest ∙ s.left) ∙ ap (busy_at k) (map-append time_of s.front s.back) in
        let f = busy_at-append k (map time_of s.front) (map time_of s.back) in
        omega arith
