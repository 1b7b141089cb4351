-- A loss station between two events.
use Rattle.std.proofs.Common.{◌≡◌, ℕ, suc, ◌+◌, ◌<◌, ◌≤◌, Bool, true, false, cond, ltb, List, [], ◌∷◌, ◌++◌, length, map, Some, sym, refl, ap, ◌∙◌, subst, arith, length-append, append_assoc, ltb-true}
use Rattle.std.proofs.lemmas.Bool.Decides.{nat_tests}
use Rattle.std.proofs.lemmas.List.{append-nil, length-map}
use Rattle.std.specs.Prelude.{slice_get}
use Rattle.std.specs.List.{AllByRecursion as Each}
use Rattle.mq_base.proofs.lemmas.Each.{Each-append, Each-weaker}
use Rattle.mq_base.proofs.lemmas.Lists.{get-front, get-last}
use Rattle.mq_core.specs.Event.{Event, time_of, earliest, sooner_of}
use Rattle.mq_core.specs.Event.Event.{Arrive, Finish}
use Rattle.mq_core.specs.Machine.{Visit, Emission, finishes_of, emissions_of, emission_of}
use Rattle.mq_core.specs.Laws.{in_order_of}
use Rattle.mq_core.specs.Local.{Local}
use Rattle.mq_core.specs.Handling.{demand_of_job, demand_of_visit, demand_at, latest, queues_up, passes_on, front_leaves, front_begins}
use Rattle.mq_core.specs.Kinds.Loss.{loss_on}
use Rattle.mq_core.specs.OnceOut.{faring_by}
use Rattle.mq_core.specs.Recurrences.{time_or_none}
use Rattle.mq_core.specs.Tallies.{arrival_or}
use Rattle.mq_core.specs.declared.model.Demand.{Demand}
use Rattle.mq_core.specs.declared.model.Rows.{Rows}
use Rattle.mq_core.proofs.Events.Founds.{later-one}
use Rattle.mq_core.proofs.Loss.LossFlow.{leaves_at, fate_if, left_if, fared, left_by, fared-push, left_by-push, count_after, has_place}
use Rattle.mq_core.proofs.Counting.Reordered.{in_order-push}
use Rattle.mq_core.proofs.Server.Serves.{latest-push, queues_up-releases, pair-inj, get-latest}

-- the last of some departures, behind one at this time
abbrev pub last_of : ℕ → List Emission → ℕ
last_of time [] = time
last_of time (m ∷ ms) = last_of m.time ms

-- each leaves its demand after the one before it, the first behind one at this time
abbrev pub chained : Rows → Demand → ℕ → List Emission → Type 0
chained rows demand time [] = Unit {0}
chained rows demand time (m ∷ ms) = (m.time ≡ time + demand_of_job rows demand m.job) × chained rows demand m.time ms

-- the same of those behind the front
abbrev pub chained_behind : Rows → Demand → List Emission → Type 0
chained_behind rows demand [] = Unit {0}
chained_behind rows demand (m ∷ ms) = chained rows demand m.time ms

-- the finish of the front
abbrev pub front_finish : ℕ → List Emission → List Event
front_finish v [] = []
front_finish v (m ∷ ms) = Finish m.time v 0 m.position ∷ []

-- how many of these leave later than this
abbrev pub count_later : ℕ → List Emission → ℕ
count_later now [] = 0
count_later now (m ∷ ms) = cond (ltb now m.time) 1 0 + count_later now ms

-- one that is still to leave goes out by output 0 with the job of its position, and those behind it came before it leaves
pub record ToLeave (visits : List Visit) (m : Emission) : Type 0 where
  pub visit : Visit
  pub own : slice_get visits m.position ≡ Some visit
  pub job : visit.job ≡ m.job
  pub out : m.out ≡ 0
  pub inside : m.position < length visits
  pub behind : (p : ℕ) → m.position < p → p < length visits → arrival_or 0 (slice_get visits p) < m.time

-- how all visits fare, by position, and the departures of those admitted, the latest first
abbrev pub all_fared : Rows → ℕ → Demand → List Visit → List Emission
all_fared rows places demand visits = fared (has_place places) rows demand 0 [] visits

abbrev pub all_left : Rows → ℕ → Demand → List Visit → List ℕ
all_left rows places demand visits = left_by (has_place places) rows demand [] visits

-- a loss station between two events: who left, and who is still to leave, are all its visits in order of time, those that are
-- still to leave wait in order, and the front is served next
pub record Losing (rows : Rows) (places : ℕ) (demand : Demand) (v : ℕ) (visits : List Visit) (queue : List ℕ) (emitted : List Emission) (fs : List Event) (now : ℕ) : Type 0 where
  pub coming : List Emission
  pub done : ℕ
  pub left : emitted ++ coming ≡ in_order_of (λ (m : Emission). m.time) (all_fared rows places demand visits)
  pub waiting : queue ≡ map (λ (m : Emission). m.position) coming
  pub next : fs ≡ front_finish v coming
  pub before : Each (λ (m : Emission). m.time ≤ now) emitted
  pub past : done ≤ now
  pub last : last_of done coming ≡ time_or_none (slice_get (all_left rows places demand visits) 0)
  pub chain : chained_behind rows demand coming
  pub held : Each (ToLeave visits) coming
  pub taken : (k : ℕ) → now ≤ k → count_after k (all_left rows places demand visits) ≡ count_later k coming

pub losing-opens : (rows : Rows) (places : ℕ) (demand : Demand) (v : ℕ) → Losing rows places demand v [] [] [] [] 0
losing-opens rows places demand v = record { coming = []; done = 0; left = refl; waiting = refl; next = refl; before = tt; past = omega arith; last = refl; chain = tt; held = tt; taken = λ k l. refl }

pub losing-waits : (rows : Rows) (places : ℕ) (demand : Demand) (v : ℕ) (visits : List Visit) (queue : List ℕ) (emitted : List Emission) (fs : List Event) (now later : ℕ) → now ≤ later → Losing rows places demand v visits queue emitted fs now → Losing rows places demand v visits queue emitted fs later
losing-waits rows places demand v visits queue emitted fs now later l h =
    let low = h.past in
    record {
      coming = h.coming;
      done = h.done;
      left = h.left;
      waiting = h.waiting;
      next = h.next;
      before = Each-weaker _ _ (λ m k. omega arith) emitted h.before;
      past = omega arith;
      last = h.last;
      chain = h.chain;
      held = h.held;
      taken = λ k u. h.taken k (omega arith);
    }

-- those behind leave no earlier, and no later than the last
chained-from : (rows : Rows) (demand : Demand) (time : ℕ) (ms : List Emission) → chained rows demand time ms → Each (λ (m : Emission). time ≤ m.time) ms × (time ≤ last_of time ms) × Each (λ (m : Emission). m.time ≤ last_of time ms) ms
chained-from rows demand time [] c = (tt, omega arith, tt)
chained-from rows demand time (m ∷ ms) c =
    let at = c.0 in
    let ih = chained-from rows demand m.time ms c.1 in
    let low = ih.1 in
    ((omega arith, Each-weaker _ _ (λ k l. omega arith) ms ih.0), omega arith, (low, ih.2))

chained-push : (rows : Rows) (demand : Demand) (time : ℕ) (ms : List Emission) (m : Emission) → m.time ≡ last_of time ms + demand_of_job rows demand m.job → chained rows demand time ms → chained rows demand time (ms ++ m ∷ [])
chained-push rows demand time [] m e c = (e, tt)
chained-push rows demand time (y ∷ ys) m e c = (c.0, chained-push rows demand y.time ys m e c.1)

last_of-push : (time : ℕ) (ms : List Emission) (m : Emission) → last_of time (ms ++ m ∷ []) ≡ m.time
last_of-push time [] m = refl
last_of-push time (y ∷ ys) m = last_of-push y.time ys m

map-push : (ms : List Emission) (m : Emission) → map (λ (k : Emission). k.position) (ms ++ m ∷ []) ≡ map (λ (k : Emission). k.position) ms ++ m.position ∷ []
map-push [] m = refl
map-push (y ∷ ys) m = ap (λ l. y.position ∷ l) (map-push ys m)

count_later-push : (k : ℕ) (ms : List Emission) (m : Emission) → count_later k (ms ++ m ∷ []) ≡ cond (ltb k m.time) 1 0 + count_later k ms
count_later-push k [] m = refl
count_later-push k (y ∷ ys) m = let ih = count_later-push k ys m in omega arith

-- all that leave later are later
count_later-all : (now : ℕ) (ms : List Emission) → Each (λ (m : Emission). now < m.time) ms → count_later now ms ≡ length ms
count_later-all now [] h = refl
count_later-all now (m ∷ ms) h = let ih = count_later-all now ms h.1 in let e = later-one now m.time h.0 in omega arith

-- what is still to leave stays so behind a visit that comes before it leaves
to_leave-push : (visits : List Visit) (x : Visit) (m : Emission) → x.arrive < m.time → ToLeave visits m → ToLeave (visits ++ x ∷ []) m
to_leave-push visits x m soon h =
    let inside = h.inside in
    record {
      visit = h.visit;
      own = get-front visits (x ∷ []) m.position h.inside ∙ h.own;
      job = h.job;
      out = h.out;
      inside = omega (arith, length-append visits (x ∷ []));
      behind = λ p l u. go p (ltb p (length visits)) refl l (omega (arith, length-append visits (x ∷ [])));
    }
  where
    same : (a b : ℕ) → ltb a b ≡ false → a < suc b → a ≡ b
    same a b e l = grind (arith, nat_tests)

    go : (p : ℕ) (b : Bool) → ltb p (length visits) ≡ b → m.position < p → p < suc (length visits) → arrival_or 0 (slice_get (visits ++ x ∷ []) p) < m.time
    go p true e l u =
        let k : p < length visits = ltb-true p (length visits) e in
        let old = h.behind p l k in
        let front = ap (arrival_or 0) (get-front visits (x ∷ []) p k) in
        omega arith
    go p false e l u =
        let k : p ≡ length visits = same p (length visits) e u in
        let own = ap (λ n. arrival_or 0 (slice_get (visits ++ x ∷ []) n)) k in
        let at = ap (arrival_or 0) (get-last visits x) in
        omega arith

module _ (rows : Rows) (places : ℕ) (demand : Demand) (v : ℕ) (visits : List Visit) (queue : List ℕ) (emitted : List Emission) (fs : List Event) (now : ℕ) (h : Losing rows places demand v visits queue emitted fs now) (soon : Each (λ f. now < time_of f) fs) where
  -- those that are still to leave leave later
  coming-later : Each (λ (m : Emission). now < m.time) h.coming
  coming-later = go h.coming h.next h.chain
    where
      go : (ms : List Emission) → fs ≡ front_finish v ms → chained_behind rows demand ms → Each (λ (m : Emission). now < m.time) ms
      go [] n c = tt
      go (m ∷ ms) n c =
          let front : now < m.time = (subst (Each (λ f. now < time_of f)) n soon).0 in
          (front, Each-weaker _ _ (λ k l. omega arith) ms (chained-from rows demand m.time ms c).0)

  coming-last : Each (λ (m : Emission). m.time ≤ last_of h.done h.coming) h.coming
  coming-last = go h.coming h.chain
    where
      go : (ms : List Emission) → chained_behind rows demand ms → Each (λ (m : Emission). m.time ≤ last_of h.done ms) ms
      go [] c = tt
      go (m ∷ ms) c = let r = chained-from rows demand m.time ms c in (r.1, r.2)

  -- a place is free exactly where the queue is shorter than the places
  pub place-free : has_place places (all_left rows places demand visits) now ≡ ltb (length queue) places
  place-free =
      ap (λ n. ltb n places)
      (h.taken now (omega arith)
      ∙ (count_later-all now h.coming coming-later
      ∙ (sym (length-map h.coming (λ (m : Emission). m.position)) ∙ ap length (sym h.waiting))))

  -- what is still to leave stays so behind a visit that comes now
  still-to_leave : (x : Visit) → x.arrive ≡ now → (ms : List Emission) → Each (λ (k : Emission). now < k.time) ms → Each (ToLeave visits) ms → Each (ToLeave (visits ++ x ∷ [])) ms
  still-to_leave x at [] p q = tt
  still-to_leave x at (k ∷ ms) p q = (to_leave-push visits x k (let l = p.0 in omega arith) q.0, still-to_leave x at ms p.1 q.1)

  -- an arrival that is admitted
  losing-queues_up : (local : Local) (x : Visit) → x.arrive ≡ now → ltb (length queue) places ≡ true →
      Losing rows places demand v (visits ++ x ∷ [])
      (queues_up rows demand (visits ++ x ∷ []) local now queue (latest (visits ++ x ∷ []))).local.queue
      (emitted ++ emissions_of now (visits ++ x ∷ []) (queues_up rows demand (visits ++ x ∷ []) local now queue (latest (visits ++ x ∷ []))).releases)
      (fs ++ finishes_of v (queues_up rows demand (visits ++ x ∷ []) local now queue (latest (visits ++ x ∷ []))).services) now
  losing-queues_up local x at free =
      record {
        coming = h.coming ++ m ∷ [];
        done = h.done;
        left =
            ap (λ l. l ++ (h.coming ++ m ∷ [])) none
            ∙ (sym (append_assoc emitted h.coming (m ∷ []))
            ∙ (in_order-push (λ (k : Emission). k.time) (emitted ++ h.coming) [] (all_fared rows places demand visits) m (append-nil (emitted ++ h.coming) ∙ h.left)
            (Each-append _ emitted h.coming (Each-weaker _ _ (λ k l. omega arith) emitted h.before) (Each-weaker _ _ (λ k l. omega arith) h.coming coming-last)) tt
            ∙ ap (in_order_of (λ (k : Emission). k.time)) (sym all)));
        waiting = queues_up-queue queue ∙ (ap (λ q. q ++ latest (visits ++ x ∷ []) ∷ []) h.waiting ∙ (ap (λ n. map (λ (k : Emission). k.position) h.coming ++ n ∷ []) (latest-push visits x) ∙ sym (map-push h.coming m)));
        next = go h.coming h.waiting h.next h.last;
        before = subst (Each (λ (k : Emission). k.time ≤ now)) (sym none) h.before;
        past = h.past;
        last = last_of-push h.done h.coming m ∙ ap (λ l. time_or_none (slice_get l 0)) (sym departed);
        chain = behind h.coming h.chain leaves-last;
        held = Each-append _ h.coming (m ∷ []) (still-to_leave x at h.coming coming-later h.held) (own, tt);
        taken = λ k l. ap (count_after k) departed ∙ (ap (λ n. cond (ltb k time) 1 0 + n) (h.taken k l) ∙ sym (count_later-push k h.coming m));
      }
    where
      time : ℕ
      time = leaves_at rows demand (all_left rows places demand visits) x

      m : Emission
      m = record { out = 0; position = length visits; job = x.job; time = leaves_at rows demand (all_left rows places demand visits) x }

      low : now ≤ leaves_at rows demand (all_left rows places demand visits) x
      low = omega arith

      high : last_of h.done h.coming ≤ leaves_at rows demand (all_left rows places demand visits) x
      high = let e = h.last in omega arith

      takes : has_place places (all_left rows places demand visits) x.arrive ≡ true
      takes = ap (has_place places (all_left rows places demand visits)) at ∙ (place-free ∙ free)

      all : all_fared rows places demand (visits ++ x ∷ []) ≡ all_fared rows places demand visits ++ m ∷ []
      all =
          fared-push (has_place places) rows demand 0 [] visits x
          ∙ (ap (λ b. all_fared rows places demand visits ++ faring_by (0 + length visits) (fate_if b time) x ∷ []) takes
          ∙ ap (λ n. all_fared rows places demand visits ++ record { out = 0; position = n; job = x.job; time = time } ∷ []) (omega arith))

      departed : all_left rows places demand (visits ++ x ∷ []) ≡ time ∷ all_left rows places demand visits
      departed = left_by-push (has_place places) rows demand [] visits x ∙ ap (λ b. left_if b time (all_left rows places demand visits)) takes

      none : emitted ++ emissions_of now (visits ++ x ∷ []) (queues_up rows demand (visits ++ x ∷ []) local now queue (latest (visits ++ x ∷ []))).releases ≡ emitted
      none = ap (λ l. emitted ++ emissions_of now (visits ++ x ∷ []) l) (queues_up-releases rows demand (visits ++ x ∷ []) local now queue (latest (visits ++ x ∷ []))) ∙ append-nil emitted

      queues_up-queue : (q : List ℕ) → (queues_up rows demand (visits ++ x ∷ []) local now q (latest (visits ++ x ∷ []))).local.queue ≡ q ++ latest (visits ++ x ∷ []) ∷ []
      queues_up-queue [] = refl
      queues_up-queue (front ∷ q) = refl

      -- behind others it leaves its demand after the last
      leaves-last : (ms : List Emission) (k : Emission) → h.coming ≡ k ∷ ms → m.time ≡ last_of k.time ms + demand_of_job rows demand x.job
      leaves-last ms k e =
          let same : last_of h.done h.coming ≡ last_of k.time ms = ap (last_of h.done) e in
          let all' = subst (Each (λ (c : Emission). now < c.time)) e coming-later in
          let first : now < k.time = all'.0 in
          let rise = (chained-from rows demand k.time ms (subst (chained_behind rows demand) e h.chain)).1 in
          let is = h.last in
          omega arith

      behind : (ms : List Emission) → chained_behind rows demand ms → ((rest : List Emission) (k : Emission) → ms ≡ k ∷ rest → m.time ≡ last_of k.time rest + demand_of_job rows demand x.job) → chained_behind rows demand (ms ++ m ∷ [])
      behind [] c e = tt
      behind (k ∷ ms) c e = chained-push rows demand k.time ms m (e ms k refl) c

      own : ToLeave (visits ++ x ∷ []) m
      own =
          record {
            visit = x;
            own = get-last visits x;
            job = refl;
            out = refl;
            inside = omega (arith, length-append visits (x ∷ []));
            behind = λ p l u. absurd (omega (arith, length-append visits (x ∷ [])));
          }

      go : (ms : List Emission) → queue ≡ map (λ (k : Emission). k.position) ms → fs ≡ front_finish v ms → last_of h.done ms ≡ time_or_none (slice_get (all_left rows places demand visits) 0) → fs ++ finishes_of v (queues_up rows demand (visits ++ x ∷ []) local now queue (latest (visits ++ x ∷ []))).services ≡ front_finish v (ms ++ m ∷ [])
      go [] q n l =
          let past = h.past in
          let p : latest (visits ++ x ∷ []) ≡ length visits = latest-push visits x in
          let asks : demand_at rows demand (visits ++ x ∷ []) (latest (visits ++ x ∷ [])) ≡ demand_of_job rows demand x.job = ap (demand_at rows demand (visits ++ x ∷ [])) p ∙ ap (demand_of_visit rows demand) (get-last visits x) in
          let moment : now + demand_at rows demand (visits ++ x ∷ []) (latest (visits ++ x ∷ [])) ≡ leaves_at rows demand (all_left rows places demand visits) x = omega arith in
          rw (n, q) (λ i. Finish (moment i) v 0 (p i) ∷ [])
      go (k ∷ ms) q n l = rw (n, q) refl

  -- an arrival that is lost
  losing-passes : (x : Visit) → x.arrive ≡ now → ltb (length queue) places ≡ false →
      Losing rows places demand v (visits ++ x ∷ []) queue
      (emitted ++ emissions_of now (visits ++ x ∷ []) (record { out = 1; position = latest (visits ++ x ∷ []) } ∷ []))
      (fs ++ []) now
  losing-passes x at full =
      record {
        coming = h.coming;
        done = h.done;
        left =
            ap (λ l. l ++ h.coming) one
            ∙ (append_assoc emitted (m ∷ []) h.coming
            ∙ (in_order-push (λ (k : Emission). k.time) emitted h.coming (all_fared rows places demand visits) m h.left
            (Each-weaker _ _ (λ k l. omega arith) emitted h.before) (Each-weaker _ _ (λ k l. omega arith) h.coming coming-later)
            ∙ ap (in_order_of (λ (k : Emission). k.time)) (sym all)));
        waiting = h.waiting;
        next = append-nil fs ∙ h.next;
        before = subst (Each (λ (k : Emission). k.time ≤ now)) (sym one) (Each-append _ emitted (m ∷ []) h.before (omega arith, tt));
        past = h.past;
        last = h.last ∙ ap (λ l. time_or_none (slice_get l 0)) (sym departed);
        chain = h.chain;
        held = still-to_leave x at h.coming coming-later h.held;
        taken = λ k l. ap (count_after k) departed ∙ h.taken k l;
      }
    where
      m : Emission
      m = record { out = 1; position = length visits; job = x.job; time = x.arrive }

      takes : has_place places (all_left rows places demand visits) x.arrive ≡ false
      takes = ap (has_place places (all_left rows places demand visits)) at ∙ (place-free ∙ full)

      all : all_fared rows places demand (visits ++ x ∷ []) ≡ all_fared rows places demand visits ++ m ∷ []
      all =
          fared-push (has_place places) rows demand 0 [] visits x
          ∙ (ap (λ b. all_fared rows places demand visits ++ faring_by (0 + length visits) (fate_if b (leaves_at rows demand (all_left rows places demand visits) x)) x ∷ []) takes
          ∙ ap (λ n. all_fared rows places demand visits ++ record { out = 1; position = n; job = x.job; time = x.arrive } ∷ []) (omega arith))

      departed : all_left rows places demand (visits ++ x ∷ []) ≡ all_left rows places demand visits
      departed = left_by-push (has_place places) rows demand [] visits x ∙ ap (λ b. left_if b (leaves_at rows demand (all_left rows places demand visits) x) (all_left rows places demand visits)) takes

      one : emitted ++ emissions_of now (visits ++ x ∷ []) (record { out = 1; position = latest (visits ++ x ∷ []) } ∷ []) ≡ emitted ++ m ∷ []
      one =
          let p : latest (visits ++ x ∷ []) ≡ length visits = latest-push visits x in
          ap (λ o. emitted ++ (emission_of now 1 (latest (visits ++ x ∷ [])) o ++ [])) (get-latest visits x)
          ∙ (λ i. emitted ++ record { out = 1; position = p i; job = x.job; time = sym at i } ∷ [])

-- an arrival at a loss station
pub losing-arrives : (rows : Rows) (places : ℕ) (demand : Demand) (v port : ℕ) (local : Local) (visits : List Visit) (emitted : List Emission) (fs : List Event) (now : ℕ) (x : Visit) → x.arrive ≡ now → Each (λ f. now < time_of f) fs → Losing rows places demand v visits local.queue emitted fs now →
    Losing rows places demand v (visits ++ x ∷ [])
    (loss_on rows places demand (visits ++ x ∷ []) local now (Arrive now v port x.job)).local.queue
    (emitted ++ emissions_of now (visits ++ x ∷ []) (loss_on rows places demand (visits ++ x ∷ []) local now (Arrive now v port x.job)).releases)
    (fs ++ finishes_of v (loss_on rows places demand (visits ++ x ∷ []) local now (Arrive now v port x.job)).services) now
losing-arrives rows places demand v port local visits emitted fs now x at soon h = go (ltb (length local.queue) places) refl
  where
    go : (b : Bool) → ltb (length local.queue) places ≡ b → Losing rows places demand v (visits ++ x ∷ []) (cond b (queues_up rows demand (visits ++ x ∷ []) local now local.queue (latest (visits ++ x ∷ []))) (passes_on local 1 (latest (visits ++ x ∷ [])))).local.queue
        (emitted ++ emissions_of now (visits ++ x ∷ []) (cond b (queues_up rows demand (visits ++ x ∷ []) local now local.queue (latest (visits ++ x ∷ []))) (passes_on local 1 (latest (visits ++ x ∷ [])))).releases)
        (fs ++ finishes_of v (cond b (queues_up rows demand (visits ++ x ∷ []) local now local.queue (latest (visits ++ x ∷ []))) (passes_on local 1 (latest (visits ++ x ∷ [])))).services) now
    go true e = losing-queues_up rows places demand v visits local.queue emitted fs now h soon local x at e
    go false e = losing-passes rows places demand v visits local.queue emitted fs now h soon x at e

-- the next service begins now
next-begins : (rows : Rows) (demand : Demand) (v : ℕ) (visits : List Visit) (now time : ℕ) (ms : List Emission) → time ≡ now → chained rows demand time ms → Each (ToLeave visits) ms → finishes_of v (front_begins rows demand visits now (map (λ (m : Emission). m.position) ms)) ≡ front_finish v ms
next-begins rows demand v visits now time [] at c held = refl
next-begins rows demand v visits now time (m ∷ ms) at c held =
    let own = held.0 in
    let asks : demand_at rows demand visits m.position ≡ demand_of_job rows demand m.job = ap (demand_of_visit rows demand) own.own ∙ ap (demand_of_job rows demand) own.job in
    let leaves = c.0 in
    let moment : now + demand_at rows demand visits m.position ≡ m.time = omega arith in
    λ i. Finish (moment i) v 0 m.position ∷ []

-- a finish lets the front out
pub front-emission : (visits : List Visit) (now : ℕ) (m : Emission) → m.time ≡ now → ToLeave visits m → emission_of now 0 m.position (slice_get visits m.position) ++ [] ≡ m ∷ []
front-emission visits now m at held =
    ap (λ o. emission_of now 0 m.position o ++ []) held.own
    ∙ (λ i. record { out = sym held.out i; position = m.position; job = held.job i; time = sym at i } ∷ [])

-- a finish at a loss station
pub losing-ends : (rows : Rows) (places : ℕ) (demand : Demand) (rank : ℕ → ℕ) (v server position : ℕ) (local : Local) (visits : List Visit) (queue : List ℕ) (emitted : List Emission) (fs rest : List Event) (now : ℕ) → earliest rank fs ≡ Some (Finish now v server position, rest) → Losing rows places demand v visits queue emitted fs now →
    Losing rows places demand v visits
    ((front_leaves rows demand visits local now queue).local.queue)
    (emitted ++ emissions_of now visits (front_leaves rows demand visits local now queue).releases)
    (rest ++ finishes_of v (front_leaves rows demand visits local now queue).services) now
unfolding earliest sooner_of
losing-ends rows places demand rank v server position local visits queue emitted fs rest now first h = go h.coming h.left h.waiting h.next h.last h.chain h.held h.taken
  where
    past : (k now time : ℕ) → time ≡ now → now ≤ k → ◌≡◌ {A = ℕ} (cond (ltb k time) 1 0) 0
    past k now time e l = grind (arith, nat_tests)

    behind : (time : ℕ) (ms : List Emission) → chained rows demand time ms → chained_behind rows demand ms
    behind time [] c = tt
    behind time (m ∷ ms) c = c.1

    go : (coming : List Emission) → emitted ++ coming ≡ in_order_of (λ (m : Emission). m.time) (all_fared rows places demand visits) → queue ≡ map (λ (m : Emission). m.position) coming → fs ≡ front_finish v coming →
        last_of h.done coming ≡ time_or_none (slice_get (all_left rows places demand visits) 0) → chained_behind rows demand coming → Each (ToLeave visits) coming →
        ((k : ℕ) → now ≤ k → count_after k (all_left rows places demand visits) ≡ count_later k coming) →
        Losing rows places demand v visits ((front_leaves rows demand visits local now queue).local.queue) (emitted ++ emissions_of now visits (front_leaves rows demand visits local now queue).releases) (rest ++ finishes_of v (front_leaves rows demand visits local now queue).services) now
    go [] a w n l c held t = let none = subst (λ l. earliest rank l ≡ Some (Finish now v server position, rest)) n first in absurd cc
    go (m ∷ ms) a w n l c held t =
        let one = subst (λ l. earliest rank l ≡ Some (Finish now v server position, rest)) n first in
        let both = pair-inj (Finish m.time v 0 m.position, []) (Finish now v server position, rest) one in
        let time : m.time ≡ now = ap time_of both.0 in
        let out : emitted ++ (emission_of now 0 m.position (slice_get visits m.position) ++ []) ≡ emitted ++ m ∷ [] = ap (λ k. emitted ++ k) (front-emission visits now m time held.0) in
        rw (w, ← both.1)
        (record {
          coming = ms;
          done = m.time;
          left = ap (λ k. k ++ ms) out ∙ (append_assoc emitted (m ∷ []) ms ∙ a);
          waiting = refl;
          next = next-begins rows demand v visits now m.time ms time c held.1;
          before = subst (Each (λ (k : Emission). k.time ≤ now)) (sym out) (Each-append _ emitted (m ∷ []) h.before (omega arith, tt));
          past = omega arith;
          last = l;
          chain = behind m.time ms c;
          held = held.1;
          taken = λ k u. t k u ∙ ap (λ j. j + count_later k ms) (past k now m.time time u) ∙ omega arith;
        })
